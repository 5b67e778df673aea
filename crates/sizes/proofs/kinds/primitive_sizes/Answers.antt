use Rattle.mesh.specs.FaceSet.{point_count}
use native.Mathlib.Omega.{arith}
use mathlib.Core.Path.{ap}
use Rattle.bits.specs.Bits.{entries}
use Rattle.bits.proofs.Entries.{entries_length}
use Rattle.sizes.proofs.Within.{primitives_within}
use Rattle.sizes.proofs.ByKind.{primitives_are}
use Rattle.block.specs.declared.runs.Totals.{Totals}
use Rattle.sizes.proofs.kinds.primitive_sizes.Goals as goal

pub run_sizes-requires : goal.run_sizes-requires
run_sizes-requires c =
    let l = c.list_part-list.result.now in
    omega (arith, ap (λ (t : Totals). t.triangles) c.totals.ensures, primitives_within {points = point_count c.args.h} (omega (arith, c.requires)) c.args.g (entries l), entries_length l)

pub returns : goal.returns
returns c = primitives_are _ _ _ c.list_part-list.ensures _ _ _ _ c.totals.ensures c.wide.ensures c.run_sizes.ensures
