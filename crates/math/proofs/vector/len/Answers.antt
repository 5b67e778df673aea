use Rattle.math.specs.Vector.{vlen}
use Rattle.math.proofs.vector.len.Goals as goal

pub returns : goal.returns
unfolding vlen
returns c = cc
