-- Searches: the first number that passes a test, a search block by block, and whether some element of a list passes it.
use mathlib.Core.Path.{◌≡◌, refl, sym, ap, ◌∙◌}
use mathlib.Core.Bool.{Bool, true, false, ◌||◌}
use mathlib.Core.List.{List, [], ◌∷◌}
use mathlib.Core.Logic.{⊎_elim}
use Prim.Native.Nat.{ℕ, zero, suc, ◌+◌, ◌-◌, ◌≤◌, ◌<◌}
use native.Mathlib.Nat.{le_refl, eq-or-lt_of_le, sub-zero, add-zero, add-suc, suc-add, not-suc-le-zero}
use native.Mathlib.Numerals.{add-one}
use native.Mathlib.Omega.{arith}
use lib.Dec.{leb, ltb}
use lib.ListN.{length, get_or, take}
use borrow.Author.Tests.{leb-false, lt-ltb, le-ltb}
use Rattle.std.specs.List.{list_any}
use Rattle.lists.specs.Loops.{pick, any, tab, first}
use Rattle.lists.proofs.Loops.{first_go, first_stop, first_end}
use Rattle.lists.proofs.Tests.{none_head, none_tail}

-- ---- a search by number

module _ (f : ℕ → Bool) where
  pub first_has : (k i j : ℕ) → i ≤ j → j < i + k → f j ≡ true → first f k i < i + k
  unfolding first
  first_has zero i j h b e = let z : ⊥ = omega arith in absurd z
  first_has (suc k) i j h b e = go (f i) refl (λ (w : i < j). first_has k (suc i) j w (omega arith) e)
    where
      no : (b : Bool) → b ≡ true → b ≡ false → ⊥
      no true p q = let z : ◌≡◌ {A = ℕ} 0 1 = cc in omega arith
      no false p q = let z : ◌≡◌ {A = ℕ} 0 1 = cc in omega arith

      go : (q : Bool) → f i ≡ q → (i < j → first f k (suc i) < suc i + k) → pick q i (first f k (suc i)) < i + suc k
      go true p r = omega arith
      go false p r =
          ⊎_elim (λ (w : i ≡ j). let z : ⊥ = no (f j) e (ap f (sym w) ∙ p) in absurd z)
          (λ (w : i < j). let q : first f k (suc i) < suc i + k = r w in omega arith)
          (eq-or-lt_of_le h)

  pub first_find : (k i : ℕ) → first f k i < i + k → f (first f k i) ≡ true
  unfolding first
  first_find zero i h = let z : ⊥ = omega arith in absurd z
  first_find (suc k) i h = go (f i) refl h (first_find k (suc i))
    where
      go : (q : Bool) → f i ≡ q → pick q i (first f k (suc i)) < i + suc k → (first f k (suc i) < suc i + k → f (first f k (suc i)) ≡ true)
          → f (pick q i (first f k (suc i))) ≡ true
      go true p b r = p
      go false p b r = r (omega arith)

  pub first_below : (k i j : ℕ) → i ≤ j → j < first f k i → f j ≡ false
  unfolding first
  first_below zero i j h b = let z : ⊥ = omega arith in absurd z
  first_below (suc k) i j h b = go (f i) refl b (first_below k (suc i) j)
    where
      go : (q : Bool) → f i ≡ q → j < pick q i (first f k (suc i)) → (suc i ≤ j → j < first f k (suc i) → f j ≡ false) → f j ≡ false
      go true p w r = let z : ⊥ = omega arith in absurd z
      go false p w r = ⊎_elim (λ (e : i ≡ j). ap f (sym e) ∙ p) (λ (e : i < j). r e w) (eq-or-lt_of_le h)

  -- a search that starts behind what is known to fail
  pub first_from : (n k : ℕ) → ((j : ℕ) → j < k → f j ≡ false) → k ≤ n → first f (n - k) k ≡ first f n 0
  first_from n zero h b = ap (λ (m : ℕ). first f m 0) (sub-zero n)
  first_from n (suc k) h b =
      ap (λ (m : ℕ). first f (n - m) m) (sym (add-one k))
      ∙ sym (first_go f n k (omega arith) (h k (omega arith)))
      ∙ first_from n k (λ (j : ℕ) (q : j < k). h j (omega arith)) (omega arith)

-- a search by a test that is another's from a later number on
pub first_later : (f g : ℕ → Bool) (a n i j : ℕ) → a + i ≡ j → ((k : ℕ) → i ≤ k → k < i + n → g k ≡ f (a + k)) → a + first g n i ≡ first f n j
unfolding first
first_later f g a zero i j e s = e
first_later f g a (suc n) i j e s =
    go (g i) e (first_later f g a n (suc i) (suc j) (omega arith) (λ k l h. s k (omega arith) (omega arith)))
    ∙ ap (λ (b : Bool). pick b j (first f n (suc j))) (s i (le_refl i) (omega arith) ∙ ap f e)
  where
    go : (b : Bool) → a + i ≡ j → a + first g n (suc i) ≡ first f n (suc j) → a + pick b i (first g n (suc i)) ≡ pick b j (first f n (suc j))
    go true e r = e
    go false e r = r

-- ---- block by block: a block that has no hit is passed, and the first hit of a block is the first of all

module _ (f : ℕ → Bool) where
  first_least : (k i : ℕ) → i ≤ first f k i
  unfolding first
  first_least zero i = le_refl i
  first_least (suc k) i = go (f i) (first_least k (suc i))
    where
      go : (q : Bool) → suc i ≤ first f k (suc i) → i ≤ pick q i (first f k (suc i))
      go true h = le_refl i
      go false h = omega arith

  past : (n k d : ℕ) → k + d ≤ n → ((j : ℕ) → k ≤ j → j < k + d → f j ≡ false) → first f (n - k) k ≡ first f (n - (k + d)) (k + d)
  past n k zero h free = let e : k ≡ k + 0 = omega arith in ap (λ (i : ℕ). first f (n - i) i) e
  past n k (suc d) h free =
      let e : k + d + 1 ≡ k + suc d = omega arith in
      past n k d (omega arith) (λ (j : ℕ) (a : k ≤ j) (b : j < k + d). free j a (omega arith))
      ∙ first_go f n (k + d) (omega arith) (free (k + d) (omega arith) (omega arith))
      ∙ ap (λ (i : ℕ). first f (n - i) i) e

  -- none of the numbers from k up to e passes
  pub past_to : (n k e : ℕ) → k ≤ e → e ≤ n → ((j : ℕ) → k ≤ j → j < e → f j ≡ false) → first f (n - k) k ≡ first f (n - e) e
  past_to n k e h l free =
      let s : k + (e - k) ≡ e = omega arith in
      past n k (e - k) (omega arith) (λ (j : ℕ) (a : k ≤ j) (b : j < k + (e - k)). free j a (omega arith))
      ∙ ap (λ (i : ℕ). first f (n - i) i) s

  pub none_to : (k e : ℕ) → k ≤ e → ((j : ℕ) → k ≤ j → j < e → f j ≡ false) → e ≡ first f (e - k) k
  none_to k e h free = sym (past_to e k e h (le_refl e) free ∙ first_end f e e (le_refl e))

  -- the first in a block, where there is one and where there is none
  module _ (n k e h : ℕ) (up : k ≤ e) (within : e ≤ n) (is : h ≡ first f (e - k) k) where
    before : (j : ℕ) → k ≤ j → j < h → f j ≡ false
    before j a b = first_below f (e - k) k j a (omega arith)

    pub block_hit : h < e → h ≡ first f (n - k) k
    block_hit l =
        let t : f h ≡ true = ap f is ∙ first_find f (e - k) k (omega arith) in
        sym (past_to n k h (omega (arith, first_least (e - k) k)) (omega arith) before ∙ first_stop f n h (omega arith) t)

-- ---- a search in a list

module _ (f : ℕ → Bool) where
  pub any_at : (l : List ℕ) (i : ℕ) → any f l ≡ false → i < length l → f (get_or l i 0) ≡ false
  unfolding any
  any_at [] i e h = let z : ⊥ = omega arith in absurd z
  any_at (x ∷ l) zero e h = none_head (f x) (any f l) e
  any_at (x ∷ l) (suc i) e h = any_at l i (none_tail (f x) (any f l) e) (omega arith)

-- where no element is n or more, each is below n
pub below_at : (n : ℕ) (l : List ℕ) (k : ℕ) → any (leb n) l ≡ false → k < length l → get_or l k 0 < n
below_at n l k e h = leb-false n (get_or l k 0) (any_at (leb n) l k e h)

or_pick : (b : Bool) {x y : Bool} → x ≡ y → b || x ≡ pick b true y
or_pick true e = refl
or_pick false e = e

-- the library's search for an element
pub any_is : {A : Type 0} (test : A → Bool) (l : List A) → list_any test l ≡ any test l
unfolding any
any_is test [] = refl
any_is test (x ∷ xs) = or_pick (test x) (any_is test xs)

-- the library's search in the first k elements finds what a search by number finds
pub found_first : {A : Type 0} (d : A) (p : A → Bool) (g : ℕ → Bool) (l : List A) (k i : ℕ) → k ≤ length l → ((t : ℕ) → t < k → g (i + t) ≡ p (get_or l t d)) → list_any p (take k l) ≡ ltb (first g k i) (i + k)
unfolding first
found_first d p g l zero i h e = sym (le-ltb i (i + 0) (omega arith))
found_first d p g [] (suc k) i h e = absurd (not-suc-le-zero h)
found_first d p g (x ∷ xs) (suc k) i h e =
    let a : g i ≡ p x = rw add-zero at (e 0 (omega arith)) in
    let b : list_any p (take k xs) ≡ ltb (first g k (suc i)) (suc i + k) =
    found_first d p g xs k (suc i) (omega arith) (λ t w. rw (add-suc i t ∙ sym (suc-add i t)) at (e (suc t) (omega arith))) in
    rw (← a) (go (g i) b)
  where
    go : (q : Bool) → list_any p (take k xs) ≡ ltb (first g k (suc i)) (suc i + k) → q || list_any p (take k xs) ≡ ltb (pick q i (first g k (suc i))) (i + suc k)
    go true b = sym (lt-ltb i (i + suc k) (omega arith))
    go false b = let c : suc i + k ≡ i + suc k = omega arith in b ∙ ap (ltb (first g k (suc i))) c

-- of a list made by number
pub record Found (g : ℕ → Bool) (f : ℕ → ℕ) (k i : ℕ) : Type 0 where
  pub at : ℕ
  pub low : i ≤ at
  pub high : at < i + k
  pub yes : g (f at) ≡ true

module _ (g : ℕ → Bool) (f : ℕ → ℕ) where
  pub any_tab_find : (k i : ℕ) → any g (tab f k i) ≡ true → Found g f k i
  unfolding any tab
  any_tab_find zero i e = let z : ◌≡◌ {A = ℕ} 0 1 = cc in let w : ⊥ = omega arith in absurd w
  any_tab_find (suc k) i e = go (g (f i)) refl e (any_tab_find k (suc i))
    where
      go : (q : Bool) → g (f i) ≡ q → pick q true (any g (tab f k (suc i))) ≡ true → (any g (tab f k (suc i)) ≡ true → Found g f k (suc i)) → Found g f (suc k) i
      go true p w r = record { at = i; low = omega arith; high = omega arith; yes = p }
      go false p w r =
          let d = r w in
          let l : suc i ≤ d.at = d.low in
          let h : d.at < suc i + k = d.high in
          record { at = d.at; low = omega arith; high = omega arith; yes = d.yes }

  pub any_tab_has : (k i j : ℕ) → i ≤ j → j < i + k → g (f j) ≡ true → any g (tab f k i) ≡ true
  unfolding any tab
  any_tab_has zero i j l h e = let z : ⊥ = omega arith in absurd z
  any_tab_has (suc k) i j l h e =
      ⊎_elim (λ (w : i ≡ j). ap (λ (b : Bool). pick b true (any g (tab f k (suc i)))) (ap (λ (m : ℕ). g (f m)) w ∙ e))
      (λ (w : i < j). ap (λ (b : Bool). pick (g (f i)) true b) (any_tab_has k (suc i) j w (omega arith) e) ∙ or_yes (g (f i)))
      (eq-or-lt_of_le l)
    where
      or_yes : (b : Bool) → pick b true true ≡ true
      or_yes true = refl
      or_yes false = refl
