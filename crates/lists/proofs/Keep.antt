-- What is kept below a place. Tables are written one after another, so each table that was written before is kept.
use mathlib.Core.Path.{◌≡◌, refl, sym, ap, ◌∙◌}
use mathlib.Core.Logic.{⊎_elim, inl, inr}
use mathlib.Core.List.{List, ◌++◌}
use Prim.Native.Nat.{ℕ, ◌+◌, ◌-◌, ◌≤◌, ◌<◌}
use native.Mathlib.Nat.{eq-or-lt_of_le, le_of_suc-le-suc, not-suc-le-zero}
use native.Mathlib.Numerals.{add-one}
use native.Mathlib.Omega.{arith}
use lib.ListN.{length, get_or, set, take, drop, length-set, length-take, length-drop, get_or-eq_default}
use lib.Seq.{take-set-le, take-take, get_or-take, get_or-drop, get_or-set_same, get_or-set_other, ext_get_or, length-take-le, take_at}
use borrow.Rule.Slice.PartMut.{put_mid, mid_of, post_of, same_len_mid}
use Rattle.lists.specs.Parts.{seg, Kept, Out, TableOf}

module _ {A : Type 0} where
  pub kept_all : {a : ℕ} {w : List A} → Kept a w w
  kept_all = record { len = refl; front = refl }

  pub kept_set : {a : ℕ} {w w' : List A} (i : ℕ) (v : A) → Kept a w w' → a ≤ i → Kept a w (set w' i v)
  kept_set {a} {w} {w'} i v k h = record { len = length-set w' i v ∙ k.len; front = take-set-le a w' i v h ∙ k.front }

  pub kept_less : {a b : ℕ} {w w' : List A} → Kept b w w' → a ≤ b → Kept a w w'
  kept_less {a} {b} {w} {w'} k h =
      record { len = k.len; front = sym (take-take a b w' h) ∙ ap (take a) k.front ∙ take-take a b w h }

  pub kept_then : {a b : ℕ} {u v w : List A} → Kept a u v → Kept b v w → a ≤ b → Kept a u w
  kept_then k l h = record { len = l.len ∙ k.len; front = (kept_less l h).front ∙ k.front }

pub kept_at : {a : ℕ} {w w' : List ℕ} → Kept a w w' → (i : ℕ) → i < a → get_or w' i 0 ≡ get_or w i 0
kept_at {a} {w} {w'} k i h = sym (get_or-take a w' i 0 h) ∙ ap (λ (l : List ℕ). get_or l i 0) k.front ∙ get_or-take a w i 0 h

-- the words below a, one by one
pub kept_by : (a : ℕ) (w w' : List ℕ) → length w' ≡ length w → ((i : ℕ) → i < a → get_or w' i 0 ≡ get_or w i 0) → Kept a w w'
kept_by a w w' l h =
    let p = length-take a w in
    let q = length-take a w' in
    record {
      len = l;
      front = ext_get_or 0 (take a w') (take a w) (omega arith) (λ i b.
          let m : i < a = omega arith in
          get_or-take a w' i 0 m ∙ h i m ∙ sym (get_or-take a w i 0 m));
    }

pub length_seg : {A : Type 0} (w : List A) (a n : ℕ) → a + n ≤ length w → length (seg w a n) ≡ n
unfolding seg
length_seg w a n h = length-take-le n (drop a w) (omega (arith, length-drop a w))

pub seg_at : (w : List ℕ) (a n i : ℕ) → i < n → get_or (seg w a n) i 0 ≡ get_or w (a + i) 0
unfolding seg
seg_at w a n i h = get_or-take n (drop a w) i 0 h ∙ get_or-drop a w i 0

pub seg_past : (w : List ℕ) (a n i : ℕ) → n ≤ i → get_or (seg w a n) i 0 ≡ 0
unfolding seg
seg_past w a n i h = get_or-eq_default (take n (drop a w)) 0 {n = i} (omega (arith, length-take n (drop a w)))

pub kept_seg : {b : ℕ} {w w' : List ℕ} → Kept b w w' → (a n : ℕ) → a + n ≤ b → a + n ≤ length w → seg w' a n ≡ seg w a n
kept_seg {b} {w} {w'} k a n h l =
    let e = length_seg w' a n (omega (arith, k.len)) in
    ext_get_or 0 (seg w' a n) (seg w a n) (e ∙ sym (length_seg w a n l))
    (λ i r. let q : i < n = omega arith in seg_at w' a n i q ∙ kept_at k (a + i) (omega arith) ∙ sym (seg_at w a n i q))

-- ---- a part that is lent

pub part_seg : {A : Type 0} (w : List A) (lo hi n : ℕ) → hi ≡ lo + n → take (hi - lo) (drop lo w) ≡ seg w lo n
unfolding seg
part_seg w lo hi n h = let e : hi - lo ≡ n = omega arith in ap (λ (k : ℕ). take k (drop lo w)) e

pub part_length : {A : Type 0} (w : List A) (lo hi n : ℕ) → hi ≡ lo + n → lo + n ≤ length w → length (take (hi - lo) (drop lo w)) ≡ n
part_length w lo hi n h k = ap length (part_seg w lo hi n h) ∙ length_seg w lo n k

-- what a call leaves in a part keeps what is below it
pub kept_mid : {A : Type 0} (w last : List A) (lo k : ℕ) → lo + k ≤ length w → length last ≡ length (mid_of lo k w) → Kept lo w (put_mid lo k w last)
kept_mid w last lo k h e = record {
  len = same_len_mid lo k w last e;
  front = take_at (take lo w) (last ++ post_of lo k w) lo (length-take-le lo w (omega arith));
}

-- ---- one store

pub set_hit : (w : List ℕ) (i v j : ℕ) → i < length w → j ≡ i → get_or (set w i v) j 0 ≡ v
set_hit w i v j h e = rw e (get_or-set_same w i v 0 h)

pub set_miss : (w : List ℕ) (i v j : ℕ) → (j ≡ i → ⊥) → get_or (set w i v) j 0 ≡ get_or w j 0
set_miss w i v j h = get_or-set_other w i j v 0 h

-- ---- a table, one word more at a time

pub table_none : {w : List ℕ} {a : ℕ} {f : ℕ → ℕ} → TableOf w a 0 f
table_none = record { at = λ j b. absurd (not-suc-le-zero b) }

pub table_more : {f : ℕ → ℕ} (w : List ℕ) (a n v : ℕ) → a + n < length w → v ≡ f n → TableOf w a n f → TableOf (set w (a + n) v) a (n + 1) f
table_more {f} w a n v l e h = record {
  at = λ j b. ⊎_elim
      (λ (q : j ≡ n). set_hit w (a + n) v (a + j) l (omega arith) ∙ e ∙ ap f (sym q))
      (λ (q : j < n). set_miss w (a + n) v (a + j) (λ r. omega arith) ∙ h.at j q)
      (eq-or-lt_of_le (le_of_suc-le-suc (rw add-one at b)));
}

pub table_kept : {b : ℕ} {w w' : List ℕ} {f : ℕ → ℕ} (a n : ℕ) → Kept b w w' → a + n ≤ b → TableOf w a n f → TableOf w' a n f
table_kept a n k h T = record { at = λ j q. kept_at k (a + j) (omega arith) ∙ T.at j q }

-- out of more words, out of some of them
pub out_more : (a n b m i : ℕ) → b ≤ a → a + n ≤ b + m → Out b m i → Out a n i
out_more a n b m i h l o = ⊎_elim (λ (q : i < b). inl (omega arith)) (λ (q : b + m ≤ i). inr (omega arith)) o
