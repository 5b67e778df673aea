use mathlib.Core.Path.{◌∙◌}
use Rattle.math.proofs.Compare.{min_choice}
use Rattle.math.proofs.order.min.Goals as goal

pub returns : goal.returns
returns c = c.choose.ensures ∙ min_choice c.args.a c.args.b
