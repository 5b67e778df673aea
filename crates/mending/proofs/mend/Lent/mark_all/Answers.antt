use Rattle.mending.specs.Mend.{marked_all}
use Rattle.mending.proofs.mend.Lent.mark_all.Goals as goal

pub returns : goal.returns
unfolding marked_all
returns c =
    rw (c.mark-3.ensures, c.mark-2.ensures, c.mark.ensures, c.corner.ensures, c.corner-2.ensures, c.corner-3.ensures)
