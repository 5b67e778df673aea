use mathlib.Core.Path.{sym, ap, ◌∙◌}
use mathlib.Core.Bool.{true, false}
use native.Mathlib.Omega.{arith}
use Rattle.math.specs.Vector.{unit_by}
use Rattle.mesh.specs.Words.{bits}
use Rattle.mending.proofs.Fixing.{mend_scaled, mend_none, mends_one, mends_kept}
use Rattle.mending.proofs.mend.Lent.mend_by_length.Goals as goal

pub returns-in_default : goal.returns-in_default
returns-in_default c =
    let none = mend_none c.args.w _ _ c.requires.4 (ap (unit_by c.args.l) (sym c.floats_of.ensures) ∙ sym c.unit_by.ensures ∙ c.in_default.is) in
    (mends_one _ _ _ _ _ _ c.requires.3 (c.words_of.ensures ∙ ap bits c.replaced-other.ensures.0 ∙ none) c.put_words.ensures, c.replaced-other.ensures.1)

pub returns-then-is_off : goal.returns-then-is_off
returns-then-is_off c =
    let some = mend_scaled c.args.w _ _ _ true c.requires.4 (ap (unit_by c.args.l) (sym c.floats_of.ensures) ∙ sym c.unit_by.ensures ∙ c.in-Some.is) (sym c.is_off.ensures ∙ c.if-is_off.true) in
    (mends_one _ _ _ _ _ _ c.requires.3 (c.words_of-then-is_off.ensures ∙ some) c.put_words-then-is_off.ensures, c.requires.2)

pub returns-else-is_off : goal.returns-else-is_off
returns-else-is_off c =
    let some = mend_scaled c.args.w _ _ _ false c.requires.4 (ap (unit_by c.args.l) (sym c.floats_of.ensures) ∙ sym c.unit_by.ensures ∙ c.in-Some.is) (sym c.is_off.ensures ∙ c.if-is_off.false) in
    (mends_kept _ _ _ _ _ (omega (arith, c.requires.0, c.requires.1)) c.requires.3 some, c.requires.2)
