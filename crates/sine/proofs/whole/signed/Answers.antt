use Rattle.sine.proofs.whole.signed.Goals as goal

-- `sine::signed` meets its contract. Assumes nothing.
pub returns-then-minus : goal.returns-then-minus
returns-then-minus c = rw c.if-minus.true

pub returns : goal.returns
returns c = rw c.if-minus.false
