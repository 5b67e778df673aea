use Rattle.lists.proofs.Tabs.{first_left, none_left, goes_left}
use Rattle.extrusion.proofs.reading.IterIterator.next.Goals as goal

pub returns-then-i-self-clause-steps : goal.returns-then-i-self-clause-steps
returns-then-i-self-clause-steps g c = first_left _ _ _ _ c.self.view_is c.if-i-self.true c.read.ensures

pub returns-then-i-self-clause-goes : goal.returns-then-i-self-clause-goes
returns-then-i-self-clause-goes g c = goes_left (first_left _ _ _ _ c.self.view_is c.if-i-self.true c.read.ensures)

pub returns-clause-steps : goal.returns-clause-steps
returns-clause-steps g c = let e = none_left _ _ _ _ c.self.view_is c.if-i-self.false in (e, e)
