use mathlib.Core.Path.{◌∙◌, ap}
use native.Mathlib.Omega.{arith}
use Rattle.paths.specs.declared.intersect.Ray.{Ray}
use Rattle.paths.specs.Intersect.{hits}
use Rattle.std.specs.Int.{from_bool}
use Rattle.lists.proofs.Numbers.{bool_most}
use Rattle.paths.proofs.Hitting.{counting_none, counting_more, counting_all}
use Rattle.paths.proofs.pass.count_hits.Goals as goal

pub loop-j-init : goal.loop-j-init
loop-j-init c = counting_none

pub overflow_add-count : goal.overflow_add-count
overflow_add-count c = omega (arith, c.from-count.ensures, bool_most c.hits.result)

pub loop-j-preserved : goal.loop-j-preserved
loop-j-preserved c = counting_more c.loop-j.invariant c.loop-j-test.true (c.from-count.ensures ∙ ap from_bool (c.hits.ensures ∙ ap (λ (x : Ray). hits x c.args.tri) c.ray_at.ensures))

pub returns : goal.returns
returns c = counting_all c.loop-j.invariant c.loop-j-test.false
