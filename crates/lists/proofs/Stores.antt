-- A run of stores that may lie past the end, where it does nothing: `sets`.
use mathlib.Core.Path.{◌≡◌, refl, sym, ap, ◌∙◌}
use mathlib.Core.List.{List, [], ◌∷◌, ◌++◌, append-nil}
use Prim.Native.Nat.{ℕ, suc, ◌+◌, ◌-◌, ◌≤◌, ◌<◌, zero}
use native.Mathlib.Nat.{add-zero, zero-add, add-suc, suc-add}
use native.Mathlib.Omega.{arith}
use mathlib.Core.Bool.{Bool, true, false, not, ◌&&◌}
use borrow.Author.Tests.{eqb-true, eqb-false}
use lib.Dec.{eqb}
use lib.ListN.{length, get_or, set, take, drop, length-drop, take-append-drop, drop_of_length-le}
use lib.Seq.{sets, sets-eq, take-set-le, drop-set-lt, drop-set-add, get_or-set_other, length-take-le, take_all, take_at, drop_at, drop-append-add, drop-drop}
use borrow.Rule.Slice.PartMut.{put_mid, mid_of}

module _ {A : Type 0} where
  -- one list after another
  pub sets_append : (xs ys l : List A) (i : ℕ) → sets l i (xs ++ ys) ≡ sets (sets l i xs) (i + length xs) ys
  sets_append [] ys l i = ap (λ (j : ℕ). sets l j ys) (sym (add-zero i))
  sets_append (x ∷ xs) ys l i =
      sets_append xs ys (set l i x) (suc i)
      ∙ ap (λ (j : ℕ). sets (sets (set l i x) (suc i) xs) j ys) (suc-add i (length xs) ∙ sym (add-suc i (length xs)))

  -- ---- what stands elsewhere

  pub take_sets_le : (vs l : List A) (k n : ℕ) → n ≤ k → take n (sets l k vs) ≡ take n l
  take_sets_le [] l k n h = refl
  take_sets_le (x ∷ vs) l k n h = take_sets_le vs (set l k x) (suc k) n (omega arith) ∙ take-set-le n l k x h

  pub drop_sets : (vs l : List A) (k n : ℕ) → k + length vs ≤ n → drop n (sets l k vs) ≡ drop n l
  drop_sets [] l k n h = refl
  drop_sets (x ∷ vs) l k n h = drop_sets vs (set l k x) (suc k) n (omega arith) ∙ drop-set-lt n l k x (omega arith)

  pub sets_drop : (k : ℕ) (l vs : List A) (i : ℕ) → drop k (sets l (k + i) vs) ≡ sets (drop k l) i vs
  sets_drop k l [] i = refl
  sets_drop k l (v ∷ vs) i =
      ap (λ (j : ℕ). drop k (sets (set l (k + i) v) j vs)) (sym (add-suc k i)) ∙ sets_drop k (set l (k + i) v) vs (suc i) ∙ ap (λ (r : List A). sets r (suc i) vs) (drop-set-add k l i v)

  pub sets_other : (d : A) (xs l : List A) (i j : ℕ) → ((k : ℕ) → k < length xs → j ≡ i + k → ⊥) → get_or (sets l i xs) j d ≡ get_or l j d
  sets_other d [] l i j h = refl
  sets_other d (x ∷ xs) l i j h =
      sets_other d xs (set l i x) (suc i) j (λ k b e. h (suc k) (omega arith) (omega arith))
      ∙ get_or-set_other l i j x d (λ e. h 0 (omega arith) (omega arith))

  -- ---- what stands there

  pub take_sets : (l vs : List A) (n : ℕ) → length vs ≡ n → n ≤ length l → take n (sets l 0 vs) ≡ vs
  take_sets l vs n e h = ap (take n) (sets-eq vs l 0 (omega arith)) ∙ take_at vs (drop (0 + length vs) l) n e

  -- ---- in a part of a list

  sets_cons : (x : A) (l vs : List A) (i : ℕ) → sets (x ∷ l) (suc i) vs ≡ x ∷ sets l i vs
  sets_cons x l [] i = refl
  sets_cons x l (v ∷ vs) i = sets_cons x (set l i v) vs (suc i)

  -- behind the front of a list
  pub sets_behind : (front l vs : List A) (i : ℕ) → sets (front ++ l) (length front + i) vs ≡ front ++ sets l i vs
  sets_behind [] l vs i = ap (λ (k : ℕ). sets l k vs) (zero-add i)
  sets_behind (x ∷ front) l vs i =
      ap (λ (k : ℕ). sets (x ∷ front ++ l) k vs) (suc-add (length front) i) ∙ sets_cons x (front ++ l) vs (length front + i) ∙ ap (λ (r : List A). x ∷ r) (sets_behind front l vs i)

  -- in the part from `at` on, which leave `last` there: in the words of the rule for `&mut out[at..]`
  pub tail_sets : (vs o last : List A) (at : ℕ) → at ≤ length o → last ≡ sets (mid_of at (length o - at) o) 0 vs → put_mid at (length o - at) o last ≡ sets o at vs
  tail_sets vs o last at h w =
      let l : length (drop at o) ≡ length o - at = length-drop at o in
      let z : length (drop at o) ≤ length o - at = omega arith in
      let f : length (take at o) ≡ at = length-take-le at o h in
      ap (λ (r : List A). take at o ++ (last ++ r)) (drop_of_length-le (drop at o) z)
      ∙ ap (λ (r : List A). take at o ++ r) (append-nil last ∙ w ∙ ap (λ (r : List A). sets r 0 vs) (take_all (length o - at) (drop at o) z))
      ∙ sym (sets_behind (take at o) (drop at o) vs 0)
      ∙ ap (λ (r : List A). sets r (length (take at o) + 0) vs) (take-append-drop at o)
      ∙ ap (λ (k : ℕ). sets o k vs) (add-zero (length (take at o)) ∙ f)

  -- `last` in place of what is behind the front k, in the words of the rule for `&mut w[k..]`
  module _ (w last : List A) (k : ℕ) (h : k ≤ length w) where
    pub tail_take : take k (put_mid k (length w - k) w last) ≡ take k w
    tail_take = take_at (take k w) (last ++ drop (length w - k) (drop k w)) k (length-take-le k w h)

    pub tail_drop : drop k (put_mid k (length w - k) w last) ≡ last
    tail_drop =
        let l : length (drop k w) ≡ length w - k = length-drop k w in
        drop_at (take k w) (last ++ drop (length w - k) (drop k w)) k (length-take-le k w h)
        ∙ ap (λ (r : List A). last ++ r) (let z : length (drop k w) ≤ length w - k = omega arith in drop_of_length-le (drop k w) z)
        ∙ append-nil last

  -- `last` in place of the front m, behind which nothing changes
  pub front_drop : (w last : List A) (m k : ℕ) → length last ≡ m → m ≤ k → drop k (last ++ drop m w) ≡ drop k w
  front_drop w last m k e h =
      let q : length last + (k - m) ≡ k = omega arith in
      let r : m + (k - m) ≡ k = omega arith in
      ap (λ (j : ℕ). drop j (last ++ drop m w)) (sym q) ∙ drop-append-add last (drop m w) (k - m) ∙ drop-drop (k - m) m w ∙ ap (λ (j : ℕ). drop j w) r

pub zero_there : (left : List ℕ) (x : ℕ) → get_or (set left x 0) x 0 ≡ 0
zero_there [] x = refl
zero_there (y ∷ l) zero = refl
zero_there (y ∷ l) (suc x) = zero_there l x

pub flag_gone : (left : List ℕ) (x j : ℕ) → eqb (get_or (set left x 0) j 0) 1 ≡ (not (eqb j x) && eqb (get_or left j 0) 1)
flag_gone left x j = go (eqb j x) refl
  where
    go : (b : Bool) → eqb j x ≡ b → eqb (get_or (set left x 0) j 0) 1 ≡ (not b && eqb (get_or left j 0) 1)
    go true e = let w : get_or (set left x 0) j 0 ≡ 0 = ap (λ (k : ℕ). get_or (set left x 0) k 0) (eqb-true j x e) ∙ zero_there left x in ap (λ (v : ℕ). eqb v 1) w
    go false e = ap (λ (v : ℕ). eqb v 1) (get_or-set_other left x j 0 0 (eqb-false j x e))

pub put_back : (l : List ℕ) (k : ℕ) → set (set l k 0) k (get_or l k 0) ≡ l
put_back [] k = refl
put_back (x ∷ l) zero = refl
put_back (x ∷ l) (suc k) = ap (λ (r : List ℕ). x ∷ r) (put_back l k)

-- three elements written, where there are no others
pub three_set : {A : Type 0} (l : List A) (a b c : A) → length l ≡ 3 → set (set (set l 0 a) 1 b) 2 c ≡ a ∷ b ∷ c ∷ []
three_set [] a b c h = cc
three_set (x ∷ []) a b c h = cc
three_set (x ∷ y ∷ []) a b c h = cc
three_set (x ∷ y ∷ z ∷ []) a b c h = refl
three_set (x ∷ y ∷ z ∷ u ∷ l) a b c h = let e : ⊥ = omega arith in absurd e
