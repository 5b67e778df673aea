use mathlib.Core.Path.{refl, sym, ◌∙◌}
use native.Mathlib.Omega.{arith}
use Rattle.polygon.specs.Memo.{word}
use Rattle.lists.proofs.Found.{some_found, none_found}
use Rattle.polygon.proofs.Turns.{search_free, search_hit}
use Rattle.polygon.proofs.memo.Search.search.Goals as goal

pub returns-in_default : goal.returns-in_default
returns-in_default c =
    let none = none_found _ _ (sym c.in_default.is ∙ c.other_hit.ensures.0) in
    (search_free _ _ _ c.requires.3 _ _ _ _ c.requires.1 refl (omega (arith, none)), record { left = c.other_hit.ensures.1; sound = rw c.other_hit.ensures.2 c.requires.3 }, c.other_hit.ensures.3)

pub store-requires : goal.store-requires
unfolding word
store-requires c = omega (arith, (some_found _ _ c.in-Some.k (sym c.in-Some.is ∙ c.other_hit.ensures.0)).1)

pub returns : goal.returns
returns c =
    let some = some_found _ _ c.in-Some.k (sym c.in-Some.is ∙ c.other_hit.ensures.0) in
    let r = search_hit _ _ _ c.requires.3 _ _ _ _ c.requires.1 some.0 _ (omega (arith, some.1)) (rw c.other_hit.ensures.2 at c.store.ensures.0) in
    (r.0, record { left = c.store.ensures.1 ∙ c.other_hit.ensures.1; sound = r.1 }, c.store.ensures.2 ∙ c.other_hit.ensures.3)
