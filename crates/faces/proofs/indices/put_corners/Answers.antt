use Prim.Native.Nat.{◌+◌, ◌-◌, ◌*◌}
use native.Mathlib.Omega.{arith}
use Rattle.faces.proofs.Pieces.{corners_in, corners_put}
use Rattle.lists.proofs.Keep.{kept_mid}
use Rattle.faces.proofs.indices.put_corners.Goals as goal

pub returns : goal.returns
returns c =
    (kept_mid c.args.work.now c.triangulate.new.scratch c.args.t.places (c.args.t.places + c.args.f.n * 5 - c.args.t.places) (omega (arith, c.requires.1, c.requires.0.scratch)) c.triangulate.auto.scratch, corners_put c.args.work.now c.args.t c.args.f.ccw c.args.f.a.0 c.args.f.n c.args.f.convex (corners_in c.requires.0.sound c.args.f.ccw c.args.f.convex c.args.f.a.0 c.args.f.n c.requires.1) c.args.floats.now _ _ _ c.args.at (omega (arith, c.requires.0.plane, c.requires.1)) c.requires.2 c.put_plane_where.ensures c.triangulate.ensures, c.put_plane_where.ensures)
