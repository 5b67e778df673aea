use mathlib.Core.Path.{refl}
use Rattle.paths.specs.Pass.{spot_at}
use Rattle.paths.proofs.rays.spot.Goals as goal

pub returns : goal.returns
unfolding spot_at
returns c = refl
