-- A face of n corners has n - 2 triangles, whatever its points are; and which of fan and ears it gets.
use mathlib.Core.Path.{◌≡◌, refl, sym, ap, ◌∙◌, subst}
use mathlib.Core.Bool.{Bool, true, false, ◌||◌, true≢false}
use mathlib.Core.List.{List, [], ◌∷◌}
use Prim.Native.Nat.{ℕ, zero, suc, ◌-◌, ◌*◌, ◌≤◌, ◌<◌}
use native.Mathlib.Omega.{arith}
use borrow.Author.Tests.{ltb-true, leb-true, leb-false, le-ltb, ne_eqb}
use lib.Dec.{eqb, leb, ltb}
use lib.ListN.{length, get_or, length-map}
use lib.Ieee.{nan}
use Rattle.lists.specs.Loops.{pick, tab}
use Rattle.lists.specs.Lists.{remove}
use Rattle.lists.proofs.Removal.{length_remove}
use Rattle.polygon.specs.Ears.{Pt, Tri, triple, fan_from, fan, goes, first_ear, corner, clip, place, order, is_reversed, turn, ear_clip_by, ear_clip, outline}
use Rattle.polygon.specs.Face.{ear_clip_max, face_tris}
use Rattle.polygon.specs.Fans.{is_fan}
use Rattle.lists.proofs.Tabs.{length_tab}
use Rattle.lists.proofs.Tests.{and_left, and_right}

pub length_order : (rev : Bool) (n : ℕ) → length (order rev n) ≡ n
unfolding order
length_order rev n = length_tab (place rev n) n 0

pub length_outline : (n : ℕ) → length (outline n) ≡ n
unfolding outline
length_outline n = length_tab (λ i. i) n 0

length_fan_from : (x : ℕ) (l : List ℕ) → length (fan_from x l) ≡ length l - 1
unfolding fan_from
length_fan_from x [] = refl
length_fan_from x (y ∷ []) = refl
length_fan_from x (y ∷ z ∷ r) = let h : length (fan_from x (z ∷ r)) ≡ suc (length r) - 1 = length_fan_from x (z ∷ r) in omega arith

pub length_fan : (l : List ℕ) → length (fan l) ≡ length l - 2
unfolding fan
length_fan [] = refl
length_fan (x ∷ l) = let h : length (fan_from x l) ≡ length l - 1 = length_fan_from x l in omega arith

module _ (P : ℕ → Pt) where
  pub goes_long : (l : List ℕ) → goes P l ≡ true → 3 < length l
  unfolding goes
  goes_long l e = ltb-true 3 (length l) (and_left (ltb 3 (length l)) (ltb (first_ear P l) (length l)) e)

  pub goes_ear : (l : List ℕ) → goes P l ≡ true → first_ear P l < length l
  unfolding goes
  goes_ear l e = ltb-true (first_ear P l) (length l) (and_right (ltb 3 (length l)) (ltb (first_ear P l) (length l)) e)

  pub length_clip : (k : ℕ) (l : List ℕ) → length (clip P k l) ≡ length l - 2
  unfolding clip
  length_clip zero l = length_fan l
  length_clip (suc k) l = go (goes P l) refl (length_clip k (remove (first_ear P l) l))
    where
      go : (b : Bool) → goes P l ≡ b → length (clip P k (remove (first_ear P l) l)) ≡ length (remove (first_ear P l) l) - 2
          → length (pick b (corner l (first_ear P l) ∷ clip P k (remove (first_ear P l) l)) (fan l)) ≡ length l - 2
      go true e ih =
          let h : 3 < length l = goes_long l e in
          let r : length (remove (first_ear P l) l) ≡ length l - 1 = length_remove (first_ear P l) l (goes_ear l e) in
          omega arith
      go false e ih = length_fan l

  pub length_ear_clip_by : (n : ℕ) → length (ear_clip_by P n) ≡ n - 2
  unfolding ear_clip_by
  length_ear_clip_by n =
      length-map (clip P (n * n) (order (is_reversed P n) n)) (turn (is_reversed P n))
      ∙ length_clip (n * n) (order (is_reversed P n) n)
      ∙ ap (λ (k : ℕ). k - 2) (length_order (is_reversed P n) n)

pub count : (pts : List Pt) → length (ear_clip pts) ≡ length pts - 2
unfolding ear_clip
count pts = length_ear_clip_by (λ j. get_or pts j (nan, nan)) (length pts)

-- three corners and fewer may be taken for fans
few : (n : ℕ) → n ≤ 3 → (many : List Tri) → pick (ltb n 3) [] (pick (eqb n 3) (triple 0 1 2 ∷ []) many) ≡ fan (outline n)
unfolding fan fan_from outline tab
few zero h many = refl
few (suc zero) h many = refl
few (suc (suc zero)) h many = refl
few (suc (suc (suc zero))) h many = refl
few (suc (suc (suc (suc n)))) h many = let z : ⊥ = omega arith in absurd z

module _ (convex : Bool) (pts : List Pt) (n : ℕ) (e : length pts ≡ n) where
  pub face_few : n ≤ 3 → face_tris convex pts ≡ fan (outline n)
  unfolding face_tris
  face_few h = rw e (few n h (pick (convex || ltb ear_clip_max n) (fan (outline n)) (ear_clip pts)))

  face_more : 3 < n → face_tris convex pts ≡ pick (convex || ltb ear_clip_max n) (fan (outline n)) (ear_clip pts)
  unfolding face_tris
  face_more h =
      let a : ltb n 3 ≡ false = le-ltb n 3 (omega arith) in
      let b : eqb n 3 ≡ false = ne_eqb n 3 (λ (z : n ≡ 3). omega arith) in
      rw (e, a, b)

  pub face_fan : is_fan convex n ≡ true → face_tris convex pts ≡ fan (outline n)
  unfolding is_fan
  face_fan h = go (leb n 3) refl h
    where
      go : (b : Bool) → leb n 3 ≡ b → (b || (convex || ltb ear_clip_max n)) ≡ true → face_tris convex pts ≡ fan (outline n)
      go true q z = face_few (leb-true n 3 q)
      go false q z = face_more (leb-false n 3 q) ∙ ap (λ (b : Bool). pick b (fan (outline n)) (ear_clip pts)) z

  pub face_ears : is_fan convex n ≡ false → face_tris convex pts ≡ ear_clip pts
  unfolding is_fan
  face_ears h = go (leb n 3) refl h
    where
      go : (b : Bool) → leb n 3 ≡ b → (b || (convex || ltb ear_clip_max n)) ≡ false → face_tris convex pts ≡ ear_clip pts
      go true q z = absurd (true≢false z)
      go false q z = face_more (leb-false n 3 q) ∙ ap (λ (b : Bool). pick b (fan (outline n)) (ear_clip pts)) z

-- a face is a fan or is clipped, so what holds of both holds of it
pub either : (Q : List Tri → Type 0) (convex : Bool) (pts : List Pt) → Q (fan (outline (length pts))) → Q (ear_clip pts) → Q (face_tris convex pts)
either Q convex pts f g = by (leb (length pts) 3) refl
  where
    pair : (b : Bool) → Q (pick b (fan (outline (length pts))) (ear_clip pts))
    pair true = f
    pair false = g

    by : (b : Bool) → leb (length pts) 3 ≡ b → Q (face_tris convex pts)
    by true q = subst Q (sym (face_few convex pts (length pts) refl (leb-true (length pts) 3 q))) f
    by false q = subst Q (sym (face_more convex pts (length pts) refl (leb-false (length pts) 3 q))) (pair (convex || ltb ear_clip_max (length pts)))

pub count_face : (convex : Bool) (pts : List Pt) → length (face_tris convex pts) ≡ length pts - 2
count_face convex pts =
    either (λ (ts : List Tri). length ts ≡ length pts - 2) convex pts
    (length_fan (outline (length pts)) ∙ ap (λ (k : ℕ). k - 2) (length_outline (length pts))) (count pts)
