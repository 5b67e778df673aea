use mathlib.Core.Path.{refl, sym, ◌∙◌}
use native.Mathlib.Nat.{sub-zero}
use native.Mathlib.Omega.{arith}
use Rattle.polygon.specs.Ears.{first_ear}
use Rattle.lists.proofs.Loops.{first_go, first_stop, first_end}
use Rattle.polygon.proofs.Turns.{searched_tells, searched_sound, searched_then}
use Rattle.lists.proofs.Found.{found_some, found_none}
use Rattle.polygon.proofs.memo.Search.first_ear.Goals as goal

pub loop-i-init : goal.loop-i-init
unfolding first_ear
loop-i-init c = (rw sub-zero, record { left = refl; sound = c.requires.1 }, refl)

pub is_ear-requires : goal.is_ear-requires
is_ear-requires c =
    let S = c.loop-i.invariant.1 in
    rw c.loop-i.invariant.2 (c.loop-i-test.true, searched_tells _ _ _ _ S _ c.requires.0, searched_sound _ _ _ _ S)

pub returns-then-is_ear : goal.returns-then-is_ear
returns-then-is_ear c =
    let S = c.loop-i.invariant.1 in
    let E = rw c.loop-i.invariant.2 at c.is_ear.ensures in
    (found_some _ _ _ (sym (first_stop _ _ _ c.loop-i-test.true (sym E.0 ∙ c.if-is_ear.true)) ∙ c.loop-i.invariant.0) c.loop-i-test.true, searched_then _ _ _ _ S _ _ E.1, E.2)

pub loop-i-preserved : goal.loop-i-preserved
loop-i-preserved c =
    let S = c.loop-i.invariant.1 in
    let E = rw c.loop-i.invariant.2 at c.is_ear.ensures in
    (sym (first_go _ _ _ c.loop-i-test.true (sym E.0 ∙ c.if-is_ear.false)) ∙ c.loop-i.invariant.0, searched_then _ _ _ _ S _ _ E.1, E.2)

pub returns : goal.returns
returns c =
    let z = sym (first_end _ _ _ c.loop-i-test.false) ∙ c.loop-i.invariant.0 in
    (found_none _ _ (omega (arith, z, c.loop-i-test.false)), c.loop-i.invariant.1, c.loop-i.invariant.2)
