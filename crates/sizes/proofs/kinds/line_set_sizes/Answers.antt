use Rattle.mesh.specs.FaceSet.{point_count}
use native.Mathlib.Omega.{arith}
use Rattle.bits.specs.Bits.{entries}
use Rattle.bits.proofs.Entries.{entries_length}
use Rattle.sizes.proofs.Within.{lines_within}
use Rattle.sizes.proofs.ByKind.{line_set_are}
use Rattle.sizes.proofs.kinds.line_set_sizes.Goals as goal

pub overflow_mul-result : goal.overflow_mul-result
overflow_mul-result c = let l = c.list_part.result.now in record { fits = omega (arith, c.line_totals-t.ensures.1, lines_within (point_count c.args.h) (entries l), entries_length l) }

pub returns : goal.returns
returns c = line_set_are _ _ _ c.list_part.ensures _ _ _ c.line_totals-t.ensures.0 c.line_totals-t.ensures.1 c.wide.ensures
