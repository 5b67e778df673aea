use Rattle.paths.specs.Pass.{ray_at}
use Rattle.paths.proofs.rays.ray_at.Goals as goal

pub returns : goal.returns
unfolding ray_at
returns c = λ i. record { orig = c.spot-orig.ensures i; dir = c.spot-dir.ensures i }
