-- Lists made by number: their length, their elements, parts joined.
use mathlib.Core.Path.{◌≡◌, refl, sym, ap, ap₂, ◌∙◌}
use mathlib.Core.Bool.{cond}
use mathlib.Core.List.{List, [], ◌∷◌, ◌++◌, map}
use Prim.Native.Nat.{ℕ, zero, suc, ◌+◌, ◌-◌, ◌<◌, ◌≤◌}
use native.Mathlib.Nat.{not-suc-le-zero, le_of_suc-le-suc, zero-add, add-zero, add-suc, suc-add}
use native.Mathlib.Numerals.{add-one}
use native.Mathlib.Omega.{arith}
use lib.ListN.{length, get_or, take, replicate}
use lib.Dec.{ltb, leb-suc-suc}
use borrow.Author.Tests.{lt-ltb, le-ltb}
use Rattle.std.specs.Prelude.{Some, None, slice_get}
use Rattle.std.specs.Iterator.{MakesProgress, item_count}
use Rattle.lists.specs.Loops.{tab}
use lib.Seq.{ext_get_or, get_or-take, length-take-le, take_all}
use Rattle.lists.specs.Parts.{seg}
use Rattle.lists.proofs.Keep.{length_seg, seg_at}

module _ {A : Type 0} where
  pub length_tab : (f : ℕ → A) (k i : ℕ) → length (tab f k i) ≡ k
  unfolding tab
  length_tab f zero i = refl
  length_tab f (suc k) i = ap suc (length_tab f k (suc i))

  pub get_or_tab : (f : ℕ → A) (k i t : ℕ) (d : A) → t < k → get_or (tab f k i) t d ≡ f (i + t)
  unfolding tab
  get_or_tab f zero i t d h = absurd (not-suc-le-zero h)
  get_or_tab f (suc k) i zero d h = ap f (sym (add-zero i))
  get_or_tab f (suc k) i (suc t) d h = get_or_tab f k (suc i) t d (le_of_suc-le-suc h) ∙ ap f (suc-add i t ∙ sym (add-suc i t))

  pub tab_at : (f : ℕ → A) (n i : ℕ) (d : A) → i < n → get_or (tab f n 0) i d ≡ f i
  tab_at f n i d h = get_or_tab f n 0 i d h ∙ ap f (zero-add i)

  slice_get_from : (f : ℕ → A) (n i k : ℕ) → slice_get (tab f n i) k ≡ cond (ltb k n) (Some (f (i + k))) None
  unfolding tab
  slice_get_from f zero i k = rw (le-ltb k 0 (omega arith))
  slice_get_from f (suc n) i zero = rw (lt-ltb 0 (suc n) (omega arith), add-zero)
  slice_get_from f (suc n) i (suc k) = rw (leb-suc-suc (suc k) n, add-suc i k ∙ sym (suc-add i k)) (slice_get_from f n (suc i) k)

  -- as the library reads a slice
  pub slice_get_tab : (f : ℕ → A) (n k : ℕ) → slice_get (tab f n 0) k ≡ cond (ltb k n) (Some (f k)) None
  slice_get_tab f n k = slice_get_from f n 0 k ∙ ap (λ (j : ℕ). cond (ltb k n) (Some (f j)) None) (zero-add k)

  -- f from i on is g from j on
  pub tab_shift : (f g : ℕ → A) (k i j : ℕ) → ((t : ℕ) → t < k → f (i + t) ≡ g (j + t)) → tab f k i ≡ tab g k j
  unfolding tab
  tab_shift f g zero i j h = refl
  tab_shift f g (suc k) i j h =
      ap₂ (λ (x : A) (l : List A). x ∷ l)
      (ap f (sym (add-zero i)) ∙ h 0 (omega arith) ∙ ap g (add-zero j))
      (tab_shift f g k (suc i) (suc j) (λ t l. ap f (suc-add i t ∙ sym (add-suc i t)) ∙ h (suc t) (omega arith) ∙ ap g (add-suc j t ∙ sym (suc-add j t))))

  pub tab_same : (f g : ℕ → A) (k : ℕ) → ((t : ℕ) → t < k → f t ≡ g t) → tab f k 0 ≡ tab g k 0
  tab_same f g k h = tab_shift f g k 0 0 (λ t l. rw zero-add (h t l))

  -- f from b on
  pub tab_from : (f : ℕ → A) (b n : ℕ) → tab (λ i. f (i + b)) n 0 ≡ tab f n b
  tab_from f b n = tab_shift (λ i. f (i + b)) f n 0 b (λ t l. let e : 0 + t + b ≡ b + t = omega arith in ap f e)

  pub tab_add : (f : ℕ → A) (a b i : ℕ) → tab f (a + b) i ≡ tab f a i ++ tab f b (i + a)
  unfolding tab
  tab_add f zero b i = rw (zero-add, add-zero) refl
  tab_add f (suc a) b i = rw (suc-add) (ap (λ (l : List A). f i ∷ l) (tab_add f a b (suc i) ∙ ap (λ (j : ℕ). tab f a (suc i) ++ tab f b j) (suc-add i a ∙ sym (add-suc i a))))

  -- one more
  pub tab_snoc : (f : ℕ → A) (i : ℕ) → tab f (i + 1) 0 ≡ tab f i 0 ++ (f i ∷ [])
  unfolding tab
  tab_snoc f i = tab_add f i 1 0 ∙ ap (λ (j : ℕ). tab f i 0 ++ (f j ∷ [])) (zero-add i)

  pub map_tab : {B : Type 0} (f : ℕ → A) (h : A → B) (k i : ℕ) → map h (tab f k i) ≡ tab (λ (j : ℕ). h (f j)) k i
  unfolding tab
  map_tab {B} f h zero i = refl
  map_tab {B} f h (suc k) i = ap (λ (l : List B). h (f i) ∷ l) (map_tab f h k (suc i))

pub tab_replicate : {A : Type 0} (v : A) (k i : ℕ) → tab (λ j. v) k i ≡ replicate k v
unfolding tab
tab_replicate v zero i = refl
tab_replicate {A} v (suc k) i = ap (λ (l : List A). v ∷ l) (tab_replicate v k (suc i))

-- the first n elements of a list
pub tab_take : {A : Type 0} (d : A) (l : List A) (n : ℕ) → n ≤ length l → tab (λ i. get_or l i d) n 0 ≡ take n l
tab_take d l n h =
    let s = length-take-le n l h in
    let t = length_tab (λ i. get_or l i d) n 0 in
    ext_get_or d (tab (λ i. get_or l i d) n 0) (take n l) (t ∙ sym s)
    (λ i b. let q : i < n = omega arith in tab_at (λ i. get_or l i d) n i d q ∙ sym (get_or-take n l i d q))

pub tab_list : {A : Type 0} (d : A) (l : List A) (n : ℕ) → length l ≡ n → tab (λ i. get_or l i d) n 0 ≡ l
tab_list d l n e = tab_take d l n (omega arith) ∙ take_all n l (omega arith)

pub seg_tab : (w : List ℕ) (a n i : ℕ) → a + i + n ≤ length w → seg w (a + i) n ≡ tab (λ (j : ℕ). get_or w (a + j) 0) n i
seg_tab w a n i h =
    let f : ℕ → ℕ = λ (j : ℕ). get_or w (a + j) 0 in
    let l = length_seg w (a + i) n h in
    ext_get_or 0 (seg w (a + i) n) (tab f n i) (l ∙ sym (length_tab f n i))
    (λ j b. let q : j < n = omega arith in let s : a + i + j ≡ a + (i + j) = omega arith in
    seg_at w (a + i) n j q ∙ ap (λ (k : ℕ). get_or w k 0) s ∙ sym (get_or_tab f n i j 0 q))

-- ---- a list that is one made by number

module _ {A : Type 0} (f : ℕ → A) (n : ℕ) where
  pub count_is : (l : List A) → tab f n 0 ≡ l → n ≡ length l
  count_is l e = sym (length_tab f n 0) ∙ ap length e

  pub entry_is : (l : List A) (i : ℕ) (r : A) → tab f n 0 ≡ l → i < length l → r ≡ f i → (d : A) → r ≡ get_or l i d
  entry_is l i r e h q d =
      let m = count_is l e in
      q ∙ sym (tab_at f n i d (omega arith)) ∙ ap (λ (l : List A). get_or l i d) e

  -- the entries from number i on: the first of them and the others, or none
  pub first_left : (l : List A) (i : ℕ) {r : A} → tab f (n - i) i ≡ l → i < n → r ≡ f i → l ≡ r ∷ tab f (n - (i + 1)) (i + 1)
  unfolding tab
  first_left l i {r} e h q =
      let k : n - i ≡ suc (n - (i + 1)) = omega arith in
      sym e ∙ ap (λ (m : ℕ). tab f m i) k ∙ (λ t. sym q t ∷ tab f (n - (i + 1)) (sym (add-one i) t))

  pub none_left : (l : List A) (i : ℕ) → tab f (n - i) i ≡ l → n ≤ i → l ≡ []
  unfolding tab
  none_left l i e h = let k : n - i ≡ 0 = omega arith in sym e ∙ ap (λ (m : ℕ). tab f m i) k

-- so that a walk comes to its end
pub goes_left : {A : Type 0} {l m : List A} {r : A} → l ≡ r ∷ m → MakesProgress (λ _. Unit {0}) (item_count (λ (x : List A). x)) l (Some r) m
goes_left {A} {l} {m} e = let k : length l ≡ suc (length m) = ap length e in record { on = λ _. (tt, tt, omega arith); keeps = tt; rests = λ _. tt }
