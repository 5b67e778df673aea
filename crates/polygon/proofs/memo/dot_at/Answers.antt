use lib.Ieee.{of_bits}
use Rattle.polygon.proofs.memo.dot_at.Goals as goal

pub returns : goal.returns
unfolding of_bits
returns c = rw (c.get_or.ensures, c.get_or-2.ensures)
