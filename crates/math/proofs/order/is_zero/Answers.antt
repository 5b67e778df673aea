use Rattle.math.proofs.Compare.{zero_test}
use Rattle.math.proofs.order.is_zero.Goals as goal

pub returns : goal.returns
returns c = zero_test c.args.x
