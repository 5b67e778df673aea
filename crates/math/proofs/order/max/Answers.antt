use mathlib.Core.Path.{◌∙◌}
use Rattle.math.proofs.Compare.{max_choice}
use Rattle.math.proofs.order.max.Goals as goal

pub returns : goal.returns
returns c = c.choose.ensures ∙ max_choice c.args.a c.args.b
