use native.Mathlib.Omega.{arith}
use Rattle.mending.proofs.Fixing.{mends_then, mends_all}
use Rattle.mending.proofs.mend.fix_zero_normals.Goals as goal

pub returns : goal.returns
returns c =
    mends_all _ _ _ _ (mends_then _ _ _ _ _ _ (omega arith) (omega arith) (omega (arith, c.requires.3)) c.mend_fours-made.ensures.0 c.mend_from.ensures)
