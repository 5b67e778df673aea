use mathlib.Core.Path.{◌∙◌}
use Rattle.math.proofs.Compare.{with_sign}
use Rattle.math.proofs.order.abs.Goals as goal

pub returns : goal.returns
returns c = c.abs.ensures.value ∙ with_sign c.args.x
