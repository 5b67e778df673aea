use mathlib.Core.Path.{◌∙◌, ap}
use native.Mathlib.Omega.{arith}
use borrow.Author.Rules.{rules}
use lib.Ieee.{binary32, of_bits, to_bits, div}
use Rattle.math.proofs.Near.{rooted}
use Rattle.math.proofs.Place.{root_bits_lt}
use Rattle.math.proofs.Sorts.{above_finite, above_infinite, below_zero, neither, positive_in, positive_root, plain_pattern}
use Rattle.math.proofs.square_root.root.Goals as goal
use Rattle.math.proofs.square_root.root.Goals.{else-x-via-then-x+else-x-2, else-x-via-else-x}

-- The tests tell which case of `root_of` it is; a positive finite argument has bits that `root_bits` takes.
pub root_bits-requires : goal.root_bits-requires
root_bits-requires c = positive_in c.args.x (above_finite c.args.x c.if-x.true c.if-x-2.true) (search rules)

pub float_from_bits-result : goal.float_from_bits-result
float_from_bits-result c =
    let b = positive_in c.args.x (above_finite c.args.x c.if-x.true c.if-x-2.true) (search rules) in
    plain_pattern c.root_bits.result (omega (arith, c.root_bits.ensures, root_bits_lt (to_bits binary32 c.args.x) b.0 b.1))

pub returns-then-x-2 : goal.returns-then-x-2
returns-then-x-2 c = rooted _ _ (search rules) (ap (of_bits binary32) c.root_bits.ensures ∙ positive_root c.args.x (above_finite c.args.x c.if-x.true c.if-x-2.true))

pub returns-then-x-3 : goal.returns-then-x-3
unfolding of_bits div
returns-then-x-3 c = rooted _ _ (search rules) (below_zero c.args.x c.if-x-3.true)

pub returns : goal.returns
returns c =
    elim c.else-x.branch [
      | else-x-via-then-x+else-x-2 w ↦ rooted _ _ (search rules) (above_infinite c.args.x w.if-x.true w.if-x-2.false)
      | else-x-via-else-x w ↦ rooted _ _ (search rules) (neither c.args.x w.if-x.false c.if-x-3.false)
    ]
