use Rattle.math.proofs.Sorts.{positive_no_nan, plain_positive, plain_in}
use borrow.Author.Rules.{rules}
use mathlib.Core.Path.{refl}
use Rattle.math.proofs.square_root.bits_in.Goals as goal

pub float_to_bits-result : goal.float_to_bits-result
float_to_bits-result c = positive_no_nan c.args.x (plain_positive c.args.x c.requires)

pub returns : goal.returns
returns c = (refl, plain_in c.args.x c.requires (search rules))
