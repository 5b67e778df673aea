use mathlib.Core.Path.{refl}
use Rattle.faces.proofs.Threes.{tri_put, renaming_go, renaming_end}
use Rattle.faces.proofs.naming.rename.Goals as goal

pub loop-i-preserved : goal.loop-i-preserved
loop-i-preserved c =
    renaming_go _ _ _ _ _ _ _ _ _ c.loop-i-test.true refl c.requires (tri_put _ _ _ _ _ _ refl c.name_tri.ensures) c.loop-i.invariant

pub returns : goal.returns
returns c = renaming_end _ _ _ _ _ _ _ c.loop-i-test.false c.loop-i.invariant
