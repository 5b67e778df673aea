use borrow.Author.Rules.{rules}
use Rattle.lists.proofs.Pieces.{none_added, added_by}
use Rattle.sphere.proofs.bands.put_tri.Goals as goal

pub returns-in-Some : goal.returns-in-Some
returns-in-Some c = rw c.in-Some.is (added_by _ _ _ (search rules) c.put_all.ensures)

pub returns-in-None : goal.returns-in-None
returns-in-None c = rw c.in-None.is (none_added _ _)
