use mathlib.Core.Path.{◌∙◌, ap}
use lib.Ieee.{binary32, of_bits, to_bits}
use native.Mathlib.Omega.{arith}
use Rattle.math.proofs.Near.{rooted}
use Rattle.math.proofs.Place.{root_bits_lt}
use Rattle.math.proofs.Sorts.{plain_pattern, positive_root, plain_positive, plain_in}
use borrow.Author.Rules.{rules}
use Rattle.math.proofs.square_root.root_of.Goals as goal

pub float_from_bits-result : goal.float_from_bits-result
float_from_bits-result c =
    let p = plain_in c.args.x c.requires.0 (search rules) in
    plain_pattern c.args.r (omega (arith, c.requires.1, root_bits_lt (to_bits binary32 c.args.x) (omega (arith, p.0)) p.1))

pub returns : goal.returns
returns c = rooted _ _ (search rules) (ap (of_bits binary32) c.requires.1 ∙ positive_root c.args.x (plain_positive c.args.x c.requires.0))
