use Rattle.block.specs.Crease.{crease_of}
use Rattle.block.proofs.crease.crease_of.Goals as goal

pub returns-then-angle : goal.returns-then-angle
unfolding crease_of
returns-then-angle c = rw c.if-angle.true

pub returns-then-angle-2 : goal.returns-then-angle-2
unfolding crease_of
returns-then-angle-2 c = rw (c.if-angle.false, c.if-angle-2.true)

pub returns : goal.returns
unfolding crease_of
returns c = rw (c.if-angle.false, c.if-angle-2.false)
