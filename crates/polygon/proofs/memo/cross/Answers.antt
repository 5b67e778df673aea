use mathlib.Core.Path.{refl}
use Rattle.polygon.specs.Ears.{cross2}
use Rattle.polygon.proofs.memo.cross.Goals as goal

pub returns : goal.returns
unfolding cross2
returns c = refl
