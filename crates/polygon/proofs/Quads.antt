-- Four corners: the definition of the ear clip worked out, place by place, for either order.
use mathlib.Core.Path.{◌≡◌, refl, sym, ap, ◌∙◌}
use mathlib.Core.Bool.{Bool, true, false, not, ◌&&◌}
use mathlib.Core.List.{List, [], ◌∷◌, map}
use Prim.Native.Nat.{ℕ, zero, suc, ◌+◌, ◌-◌, ◌%◌, ◌≤◌, ◌<◌}
use native.Mathlib.Nat.{le_refl}
use native.Mathlib.Omega.{arith}
use lib.Dec.{ltb}
use lib.ListN.{length}
use lib.Seq.{sets}
use lib.Ieee.{le}
use Rattle.lists.specs.Loops.{pick, any, tab}
use Rattle.lists.specs.Lists.{remove}
use Rattle.polygon.specs.Ears.{Pt, Tri, triple, +0, cross2, point_in_tri, blocks, is_ear, first_ear, corner, fan, fan_from, clip, place, order, turn, flat}
use Rattle.polygon.specs.Memo.{dot_of, spot_of}
use Rattle.polygon.specs.declared.memo.Dot.{Dot}
use Rattle.polygon.proofs.Lists.{sets_tri, clip_go, clip_short, clip_none, goes_on}

-- ---- an ear

only_one : (x b : Bool) → (x && not b) ≡ (x && not (pick b true false))
only_one x true = refl
only_one x false = refl

ear_by_place : (P : ℕ → Pt) (rev : Bool) (i : ℕ) → i < 4
    → (not (le (cross2 (P (place rev 4 ((i + 3) % 4))) (P (place rev 4 i)) (P (place rev 4 ((i + 1) % 4)))) +0)
    && not (point_in_tri (P (place rev 4 ((i + 2) % 4))) (P (place rev 4 ((i + 3) % 4))) (P (place rev 4 i)) (P (place rev 4 ((i + 1) % 4)))))
    ≡ is_ear P (order rev 4) i
unfolding is_ear any blocks order tab place
ear_by_place P true zero h = only_one _ _
ear_by_place P true (suc zero) h = only_one _ _
ear_by_place P true (suc (suc zero)) h = only_one _ _
ear_by_place P true (suc (suc (suc zero))) h = only_one _ _
ear_by_place P true (suc (suc (suc (suc i)))) h = absurd (omega arith)
ear_by_place P false zero h = only_one _ _
ear_by_place P false (suc zero) h = only_one _ _
ear_by_place P false (suc (suc zero)) h = only_one _ _
ear_by_place P false (suc (suc (suc zero))) h = only_one _ _
ear_by_place P false (suc (suc (suc (suc i)))) h = absurd (omega arith)

-- of corners that were read
pub ear_read : (P : ℕ → Pt) (rev : Bool) (i : ℕ) → i < 4 → (a b c d : Dot) → a ≡ dot_of P (place rev 4 ((i + 3) % 4)) → b ≡ dot_of P (place rev 4 i)
    → c ≡ dot_of P (place rev 4 ((i + 1) % 4)) → d ≡ dot_of P (place rev 4 ((i + 2) % 4))
    → (not (le (cross2 (spot_of a) (spot_of b) (spot_of c)) +0) && not (point_in_tri (spot_of d) (spot_of a) (spot_of b) (spot_of c))) ≡ is_ear P (order rev 4) i
ear_read P rev i h a b c d ea eb ec ed =
    (λ k. not (le (cross2 (spot_of (ea k)) (spot_of (eb k)) (spot_of (ec k))) +0) && not (point_in_tri (spot_of (ed k)) (spot_of (ea k)) (spot_of (eb k)) (spot_of (ec k))))
    ∙ ear_by_place P rev i h

-- ---- the triangles

-- what is clipped at place i, and the three others
both_by_place : (rev : Bool) (i : ℕ) → i < 4
    → triple (place rev 4 ((i + 3) % 4)) (place rev 4 i) (place rev 4 ((i + 1) % 4))
    ∷ triple (place rev 4 (pick (ltb 0 i) 0 1)) (place rev 4 (pick (ltb 1 i) 1 2)) (place rev 4 (pick (ltb 2 i) 2 3)) ∷ []
    ≡ corner (order rev 4) i ∷ fan (remove i (order rev 4))
unfolding order tab place remove fan fan_from
both_by_place true zero h = refl
both_by_place true (suc zero) h = refl
both_by_place true (suc (suc zero)) h = refl
both_by_place true (suc (suc (suc zero))) h = refl
both_by_place true (suc (suc (suc (suc i)))) h = absurd (omega arith)
both_by_place false zero h = refl
both_by_place false (suc zero) h = refl
both_by_place false (suc (suc zero)) h = refl
both_by_place false (suc (suc (suc zero))) h = refl
both_by_place false (suc (suc (suc (suc i)))) h = absurd (omega arith)

-- as they are written
pub both_written : (rev : Bool) (out o o' : List ℕ) (i : ℕ) → i < 4 → (a b c x y z : ℕ) → a ≡ place rev 4 ((i + 3) % 4) → b ≡ place rev 4 i → c ≡ place rev 4 ((i + 1) % 4)
    → x ≡ place rev 4 (pick (ltb 0 i) 0 1) → y ≡ place rev 4 (pick (ltb 1 i) 1 2) → z ≡ place rev 4 (pick (ltb 2 i) 2 3)
    → o ≡ sets out 0 (flat (turn rev (triple a b c) ∷ [])) → o' ≡ sets o 3 (flat (turn rev (triple x y z) ∷ []))
    → o' ≡ sets out 0 (flat (map (turn rev) (corner (order rev 4) i ∷ fan (remove i (order rev 4)))))
both_written rev out o o' i h a b c x y z ea eb ec ex ey ez eo eo' =
    eo' ∙ ap (λ (l : List ℕ). sets l 3 (flat (turn rev (triple x y z) ∷ []))) eo ∙ sym (sets_tri rev out 0 (triple a b c) (triple x y z ∷ []))
    ∙ (λ k. sets out 0 (flat (map (turn rev) (triple (ea k) (eb k) (ec k) ∷ triple (ex k) (ey k) (ez k) ∷ []))))
    ∙ ap (λ (q : List Tri). sets out 0 (flat (map (turn rev) q))) (both_by_place rev i h)

-- the fan of all four
fan_four : (rev : Bool) → fan (order rev 4) ≡ corner (order rev 4) 1 ∷ fan (remove 1 (order rev 4))
unfolding order tab place remove fan fan_from
fan_four true = refl
fan_four false = refl

three_left : (rev : Bool) (i : ℕ) → i < 4 → length (remove i (order rev 4)) ≤ 3
unfolding order tab remove
three_left rev zero h = le_refl 3
three_left rev (suc zero) h = le_refl 3
three_left rev (suc (suc zero)) h = le_refl 3
three_left rev (suc (suc (suc zero))) h = le_refl 3
three_left rev (suc (suc (suc (suc i)))) h = absurd (omega arith)

four_long : (rev : Bool) → length (order rev 4) ≡ 4
unfolding order tab
four_long rev = refl

module _ (P : ℕ → Pt) (rev : Bool) where
  pub ear_here : (i : ℕ) → i ≡ first_ear P (order rev 4) → i < 4 → clip P 16 (order rev 4) ≡ corner (order rev 4) i ∷ fan (remove i (order rev 4))
  ear_here i e l =
      clip_go P 16 (order rev 4) (omega arith) (goes_on P (order rev 4) (omega (arith, four_long rev)) (omega (arith, four_long rev)))
      ∙ ap (λ (j : ℕ). corner (order rev 4) j ∷ clip P (16 - 1) (remove j (order rev 4))) (sym e)
      ∙ ap (λ (q : List Tri). corner (order rev 4) i ∷ q) (clip_short P (16 - 1) (remove i (order rev 4)) (three_left rev i l))

  pub no_ear : 4 ≡ first_ear P (order rev 4) → clip P 16 (order rev 4) ≡ corner (order rev 4) 1 ∷ fan (remove 1 (order rev 4))
  no_ear e = clip_none P 16 (order rev 4) 4 e (omega (arith, four_long rev)) ∙ fan_four rev
