use native.Mathlib.Omega.{arith}
use Rattle.lists.proofs.Found.{found_some, found_none}
use Rattle.polygon.proofs.memo.Field.block_hit.Goals as goal

pub returns-then-k-lt-BLOCK : goal.returns-then-k-lt-BLOCK
returns-then-k-lt-BLOCK c = found_some _ _ _ c.place_in_block-k.ensures (omega (arith, c.if-k-lt-BLOCK.true))

pub returns : goal.returns
returns c = found_none _ _ (omega (arith, c.place_in_block-k.ensures, c.if-k-lt-BLOCK.false))
