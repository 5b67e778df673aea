use Prim.Native.Nat.{◌*◌}
use native.Mathlib.Omega.{arith}
use lib.ListN.{take}
use Rattle.lists.proofs.Stores.{tail_sets}
use Rattle.polygon.specs.Ears.{flat}
use Rattle.polygon.specs.Face.{face_tris}
use Rattle.polygon.specs.Plane.{pairs}
use Rattle.polygon.proofs.face.triangulate.Goals as goal

pub returns : goal.returns
returns c =
    tail_sets (flat (face_tris c.args.convex (pairs (take (c.args.n * 2) c.args.plane.now)))) c.args.out.now c.face_tris.new.out c.args.at (omega arith) c.face_tris.ensures
