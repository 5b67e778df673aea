use mathlib.Core.Path.{refl, sym, ◌∙◌}
use native.Mathlib.Omega.{arith}
use Rattle.polygon.specs.Memo.{Known, word}
use Rattle.polygon.proofs.Keep.{ear_bent, ear_blocked, go_on}
use Rattle.polygon.proofs.Turns.{decide_new}
use Rattle.polygon.proofs.memo.Search.decide.Goals as goal

pub store-requires : goal.store-requires
unfolding word
store-requires c = omega arith

pub returns-then-is_bent : goal.returns-then-is_bent
returns-then-is_bent c =
    let r = decide_new _ _ _ c.requires.1 _ _ _ _ (sym c.is_bent.ensures ∙ c.if-is_bent.true) c.store.ensures.0 in
    (r.0, record { left = c.store.ensures.1; sound = r.1 }, c.store.ensures.2)

pub returns-in-Bent : goal.returns-in-Bent
unfolding Known
returns-in-Bent c = (ear_bent _ _ _ _ _ (rw c.in-Bent.is at c.requires.0), record { left = refl; sound = c.requires.1 }, refl)

pub returns-then-flag_of-eq1 : goal.returns-then-flag_of-eq1
unfolding Known
returns-then-flag_of-eq1 c =
    (ear_blocked _ _ _ _ _ _ (rw c.in-Blocked.is at c.requires.0) (sym c.flag_of.ensures ∙ c.if-flag_of-eq1.true), record { left = refl; sound = c.requires.1 }, refl)

pub overflow_add-k : goal.overflow_add-k
unfolding Known
overflow_add-k c = let s = rw c.in-Blocked.is at c.requires.0 in omega (arith, s.inside)

pub search-requires-in-Blocked : goal.search-requires-in-Blocked
unfolding Known
search-requires-in-Blocked c =
    let s = rw c.in-Blocked.is at c.requires.0 in
    (omega (arith, s.inside), s.round, go_on _ _ _ _ _ _ s (λ z. c.if-flag_of-eq1.false (c.flag_of.ensures ∙ z)), c.requires.1)
