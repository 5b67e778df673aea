use lib.Ieee.{of_bits, div}
use Rattle.math.proofs.Sorts.{plain_pattern}
use Rattle.math.proofs.Words.{nan_pattern}
use Rattle.math.proofs.word.of_bits.Goals as goal

pub returns-then-n-gt2139095040 : goal.returns-then-n-gt2139095040
unfolding of_bits div
returns-then-n-gt2139095040 c = nan_pattern c.args.n c.if-n-gt2139095040.true

pub float_from_bits-result : goal.float_from_bits-result
float_from_bits-result c = plain_pattern c.args.n c.if-n-gt2139095040.false
