-- Parts of words: compared one word after another, and read as the words of a key. One fact over the number of words.
use mathlib.Core.Path.{◌≡◌, refl, sym, ap, ◌∙◌}
use mathlib.Core.Bool.{Bool, true, false, ◌&&◌}
use mathlib.Core.List.{List, [], ◌∷◌}
use Prim.Native.Nat.{ℕ, zero, suc, ◌+◌, ◌*◌, ◌-◌, ◌≤◌, ◌<◌}
use native.Mathlib.Nat.{le_of_suc-le-suc, not-suc-le-zero, suc_inj, suc-ne-zero, mul-suc, mul-le-mul_left}
use native.Mathlib.Omega.{arith}
use borrow.Author.Tests.{eq-eqb, ne_eqb}
use lib.Dec.{eqb}
use lib.ListN.{length, get_or, take, drop}
use lib.Seq.{drop-cons}
use Rattle.lists.specs.Lists.{same_words}
use Rattle.lists.proofs.Lists.{T_true, same_words_self, drop_three}
use Rattle.lists.specs.Parts.{seg}

pub seg_none : {A : Type 0} (l : List A) (a : ℕ) → seg l a 0 ≡ []
unfolding seg
seg_none l a = refl

-- the first of the words that are left, after t of n
pub seg_next : (l : List ℕ) (a n t : ℕ) → a + n ≤ length l → t < n → seg l (a + t) (n - t) ≡ get_or l (a + t) 0 ∷ seg l (a + (t + 1)) (n - (t + 1))
unfolding seg
seg_next l a n t h k =
    let e : n - t ≡ suc (n - (t + 1)) = omega arith in
    let f : a + (t + 1) ≡ suc (a + t) = omega arith in
    rw (e, f, drop-cons l (a + t) 0 (omega arith))

pub seg_two : (l : List ℕ) (a : ℕ) → a + 2 ≤ length l → seg l a 2 ≡ get_or l a 0 ∷ get_or l (a + 1) 0 ∷ []
unfolding seg
seg_two l a h =
    let e : suc a ≡ a + 1 = omega arith in
    ap (take 2) (drop-cons l a 0 (omega arith) ∙ ap (λ (r : List ℕ). get_or l a 0 ∷ r) (ap (λ (k : ℕ). drop k l) e ∙ drop-cons l (a + 1) 0 (omega arith)))

pub seg_four : (l : List ℕ) (a : ℕ) → a + 4 ≤ length l
    → seg l a 4 ≡ get_or l a 0 ∷ get_or l (a + 1) 0 ∷ get_or l (a + 2) 0 ∷ get_or l (a + 3) 0 ∷ []
unfolding seg
seg_four l a h =
    ap (take 4) (drop_three 0 l a (omega arith)
    ∙ ap (λ (r : List ℕ). get_or l a 0 ∷ get_or l (a + 1) 0 ∷ get_or l (a + 2) 0 ∷ r) (drop-cons l (a + 3) 0 (omega arith)))

-- ---- the loop

-- whether the words are the same is whether those that are left are, after t that are
module _ (a b : List ℕ) (i j n t : ℕ) (ha : i + n ≤ length a) (hb : j + n ≤ length b) where
  pub same_next : t < n → get_or a (i + t) 0 ≡ get_or b (j + t) 0
      → same_words (seg a (i + t) (n - t)) (seg b (j + t) (n - t)) ≡ same_words (seg a (i + (t + 1)) (n - (t + 1))) (seg b (j + (t + 1)) (n - (t + 1)))
  unfolding same_words
  same_next h e = rw (seg_next a i n t ha h, seg_next b j n t hb h, eq-eqb (get_or a (i + t) 0) (get_or b (j + t) 0) e)

  pub same_differ : t < n → (get_or a (i + t) 0 ≡ get_or b (j + t) 0 → ⊥) → same_words (seg a (i + t) (n - t)) (seg b (j + t) (n - t)) ≡ false
  unfolding same_words
  same_differ h d = rw (seg_next a i n t ha h, seg_next b j n t hb h, ne_eqb (get_or a (i + t) 0) (get_or b (j + t) 0) d)

  pub same_end : n ≤ t → same_words (seg a (i + t) (n - t)) (seg b (j + t) (n - t)) ≡ true
  unfolding same_words
  same_end h = let e : n - t ≡ 0 = omega arith in rw (e, seg_none a (i + t), seg_none b (j + t))

-- ---- rows

-- row i of n rows of w words ends within them
pub row_fits : (w i n : ℕ) → i < n → w * i + w ≤ w * n
row_fits w i n h = rw (← mul-suc w i) (mul-le-mul_left w h)

-- g 0 ∷ g 1 ∷ .. : n of them; the words of a key are front n of a row, with zeros beyond it
abbrev pub front : ℕ → (ℕ → ℕ) → List ℕ
front zero g = []
front (suc n) g = g 0 ∷ front n (λ (i : ℕ). g (suc i))

pub front_take : (n : ℕ) (a : List ℕ) → length a ≤ n → take (length a) (front n (λ (i : ℕ). get_or a i 0)) ≡ a
front_take n [] h = refl
front_take zero (x ∷ a) h = absurd (not-suc-le-zero h)
front_take (suc n) (x ∷ a) h = ap (λ (l : List ℕ). x ∷ l) (front_take n a (le_of_suc-le-suc h))

pub front_same : (n : ℕ) (a b : List ℕ) → length a ≡ length b → length a ≤ n
    → same_words (front n (λ (i : ℕ). get_or a i 0)) (front n (λ (i : ℕ). get_or b i 0)) ≡ same_words a b
unfolding same_words
front_same n [] [] e h = T_true _ (same_words_self (front n (λ (i : ℕ). 0)))
front_same n [] (y ∷ b) e h = absurd (suc-ne-zero (length b) (sym e))
front_same n (x ∷ a) [] e h = absurd (suc-ne-zero (length a) e)
front_same zero (x ∷ a) (y ∷ b) e h = absurd (not-suc-le-zero h)
front_same (suc n) (x ∷ a) (y ∷ b) e h = ap (λ (c : Bool). eqb x y && c) (front_same n a b (suc_inj e) (le_of_suc-le-suc h))
