use lib.Ieee.{of_bits}
use Rattle.parts.proofs.ring.float_at.Goals as goal

pub returns : goal.returns
unfolding of_bits
returns c = c.get_or.ensures
