use mathlib.Core.Path.{sym, ◌∙◌}
use native.Mathlib.Omega.{arith}
use Rattle.mesh.specs.Words.{floats}
use Rattle.mending.proofs.Fixing.{len_by}
use Rattle.mending.proofs.NearOne.{near_kept}
use Rattle.mending.proofs.mend.Lent.mend_one.Goals as goal

pub returns-then-is_near_one : goal.returns-then-is_near_one
returns-then-is_near_one c =
    (near_kept _ _ _ _ _ _ _ (omega (arith, c.requires.0, c.requires.1)) c.words_at-w.ensures c.square_of-square.ensures (sym c.is_near_one.ensures ∙ c.if-is_near_one.true), c.requires.2)

pub mend_by_length-requires : goal.mend_by_length-requires
mend_by_length-requires c =
    (c.requires.0, c.requires.1, c.requires.2, c.words_at-w.ensures, len_by (floats c.words_at-w.result) _ _ c.square_of-square.ensures c.root.ensures.is)
