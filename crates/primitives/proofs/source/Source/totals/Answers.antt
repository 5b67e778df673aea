use native.Mathlib.Omega.{arith}
use Rattle.bits.specs.Bits.{entries}
use Rattle.primitives.proofs.Closed.{width_three, few_corners, few_triangles, totals_are}
use Rattle.primitives.proofs.source.Source.totals.Goals as goal

pub overflow_mul-result : goal.overflow_mul-result
overflow_mul-result c = omega (arith, few_corners c.args.self.now.g c.kept_count-n.result c.width_of-w.ensures, c.kept_count-n.ensures.1)

pub overflow_sub-result : goal.overflow_sub-result
overflow_sub-result c = omega (arith, width_three c.args.self.now.g, c.width_of-w.ensures)

pub overflow_mul-result-2 : goal.overflow_mul-result-2
overflow_mul-result-2 c = omega (arith, few_triangles c.args.self.now.g c.kept_count-n.result c.width_of-w.ensures, c.kept_count-n.ensures.1)

pub returns : goal.returns
returns c = totals_are c.requires c.args.self.now.g (entries c.args.self.now.list.now) c.kept_count-n.ensures.0 c.width_of-w.ensures
