use mathlib.Core.Path.{◌∙◌}
use Rattle.math.proofs.Words.{finite_is}
use Rattle.math.proofs.word.is_finite.Goals as goal

pub returns : goal.returns
returns c = c.is_finite.ensures.value ∙ finite_is c.args.x
