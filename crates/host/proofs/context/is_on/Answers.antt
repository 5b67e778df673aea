use mathlib.Core.Path.{refl}
use Rattle.host.specs.Context.{is_on}
use Rattle.host.proofs.context.is_on.Goals as goal

pub returns : goal.returns
unfolding is_on
returns c = refl
