use Rattle.mending.proofs.Fixing.{made_here}
use Rattle.mending.proofs.mend.Lent.make_table.Goals as goal

pub returns-then-made : goal.returns-then-made
returns-then-made c = made_here _ _ _ _ _ c.requires c.if-made.true
