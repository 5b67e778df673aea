use Rattle.mesh.specs.FaceSet.{point_count}
use native.Mathlib.Omega.{arith}
use mathlib.Core.Path.{ap}
use Rattle.bits.specs.Bits.{entries}
use Rattle.bits.proofs.Entries.{entries_length}
use Rattle.sizes.proofs.Within.{triangles_within}
use Rattle.sizes.proofs.ByKind.{face_set_are}
use Rattle.block.specs.declared.runs.Totals.{Totals}
use Rattle.sizes.proofs.kinds.face_set_sizes.Goals as goal

pub run_sizes-requires : goal.run_sizes-requires
run_sizes-requires c =
    let l = c.list_part.result.now in
    omega (arith, ap (λ (t : Totals). t.triangles) c.face_totals.ensures, triangles_within (point_count c.args.h) (entries l), entries_length l)

pub returns : goal.returns
returns c = face_set_are _ _ _ c.list_part.ensures _ _ _ c.face_totals.ensures c.wide.ensures c.run_sizes.ensures
