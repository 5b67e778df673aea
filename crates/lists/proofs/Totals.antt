-- Laws of lists made by number, and of sizes added up over them.
use mathlib.Core.Path.{◌≡◌, refl, sym, ap, ap₂, ◌∙◌}
use mathlib.Core.List.{List, [], ◌∷◌, ◌++◌, map, reverse, reverse-append}
use Prim.Native.Nat.{ℕ, zero, suc, ◌+◌, ◌-◌, ◌*◌, ◌≤◌, ◌<◌}
use native.Mathlib.Nat.{add-zero, not-suc-le-zero, le_of_suc-le-suc, zero-add, add_assoc, suc-mul, zero-mul, mul-zero, mul-add}
use native.Mathlib.Numerals.{add-one}
use native.Mathlib.Omega.{arith}
use lib.ListN.{length, get_or, take, length-append, get_or-append}
use lib.Seq.{get_or-append-add}
use Rattle.lists.specs.Loops.{tab, All}
use Rattle.lists.proofs.Tabs.{tab_shift, tab_add, tab_snoc}
use Rattle.lists.specs.Lists.{map_n, total, flat}

module _ {A : Type 0} where
  pub tab_reverse : (f : ℕ → A) (n : ℕ) → reverse (tab f n 0) ≡ tab (λ j. f (n - 1 - j)) n 0
  unfolding tab
  tab_reverse f zero = refl
  tab_reverse f (suc n) =
      ap reverse (ap (λ (k : ℕ). tab f k 0) (sym (add-one n)) ∙ tab_add f n 1 0)
      ∙ reverse-append (tab f n 0) (f (0 + n) ∷ [])
      ∙ ap₂ (λ (x : A) (l : List A). x ∷ l)
      (ap f (omega arith))
      (tab_reverse f n ∙ tab_shift (λ j. f (n - 1 - j)) (λ j. f (suc n - 1 - j)) n 0 1 (λ t l. ap f (omega arith)))

  -- ---- sizes added up

  pub total_append : (size : A → ℕ) (l m : List A) → total size (l ++ m) ≡ total size l + total size m
  unfolding total
  total_append size [] m = sym (zero-add (total size m))
  total_append size (x ∷ xs) m = let e = total_append size xs m in omega arith

  pub total_tab : (size : A → ℕ) (f : ℕ → A) (w : ℕ) → ((t : ℕ) → size (f t) ≡ w) → (k i : ℕ) → total size (tab f k i) ≡ k * w
  unfolding total tab
  total_tab size f w h zero i = sym (zero-mul w)
  total_tab size f w h (suc k) i = omega (arith, total_tab size f w h k (suc i), h i, suc-mul k w)

  pub total_flat : (size : A → ℕ) (l : List (List A)) → total size (flat l) ≡ total (total size) l
  unfolding total flat
  total_flat size [] = refl
  total_flat size (x ∷ xs) = total_append size x (flat xs) ∙ ap (λ (k : ℕ). total size x + k) (total_flat size xs)

  pub flat_total : (l : List (List A)) → length (flat l) ≡ total length l
  unfolding total flat
  flat_total [] = refl
  flat_total (x ∷ xs) = length-append x (flat xs) ∙ ap (λ (k : ℕ). length x + k) (flat_total xs)

  -- element i of list j, among all
  pub flat_place : (l : List (List A)) (j i : ℕ) (d : A) → j < length l → i < length (get_or l j []) → get_or (flat l) (total length (take j l) + i) d ≡ get_or (get_or l j []) i d
  unfolding total flat
  flat_place [] j i d h b = absurd (not-suc-le-zero h)
  flat_place (x ∷ l) zero i d h b = rw (zero-add i) (get_or-append x (flat l) d i b)
  flat_place (x ∷ l) (suc j) i d h b =
      rw (add_assoc (length x) (total length (take j l)) i) (get_or-append-add x (flat l) (total length (take j l) + i) d ∙ flat_place l j i d (le_of_suc-le-suc h) b)

-- elements of one size
pub total_each : {A : Type 0} (f : A → ℕ) (c : ℕ) (l : List A) → All (λ (x : A). f x ≡ c) l → total f l ≡ c * length l
unfolding total
total_each f c [] h = sym (mul-zero c)
total_each f c (x ∷ xs) h = let e = total_each f c xs h.1 in let d = h.0 in let m = mul-add c 1 (length xs) in omega arith

-- each size decided by the element alone
pub total_map_n : {A B : Type 0} (size : B → ℕ) (by : A → ℕ) (g : ℕ → A → B) → ((n : ℕ) (x : A) → size (g n x) ≡ by x) → (n : ℕ) (l : List A) → total size (map_n g n l) ≡ total by l
unfolding total map_n
total_map_n size by g h n [] = refl
total_map_n size by g h n (x ∷ xs) = λ i. h n x i + total_map_n size by g h (suc n) xs i

pub map_n_tab : {A B : Type 0} (g : ℕ → A → B) (f : ℕ → A) (k i : ℕ) → map_n g i (tab f k i) ≡ tab (λ j. g j (f j)) k i
unfolding map_n tab
map_n_tab g f zero i = refl
map_n_tab {B = B} g f (suc k) i = ap (λ (r : List B). g i (f i) ∷ r) (map_n_tab g f k (suc i))

-- elements of at most c times a size each add up to at most c times all sizes
pub total_within : {A : Type 0} (f size : A → ℕ) (c : ℕ) → ((x : A) → f x ≤ c * size x) → (l : List A) → total f l ≤ c * total size l
unfolding total
total_within f size c h [] = omega arith
total_within f size c h (x ∷ xs) =
    let a = h x in
    let b = total_within f size c h xs in
    let e = mul-add c (size x) (total size xs) in
    omega arith

pub total_map : {A B : Type 0} (size : B → ℕ) (f : A → B) (l : List A) → total size (map f l) ≡ total (λ (x : A). size (f x)) l
unfolding total
total_map size f [] = refl
total_map size f (x ∷ l) = ap (λ (n : ℕ). size (f x) + n) (total_map size f l)

-- what is equal of each is equal of all
pub total_both : {A : Type 0} (a b c d : A → ℕ) → ((x : A) → a x + b x ≡ c x + d x) → (l : List A) → total a l + total b l ≡ total c l + total d l
unfolding total
total_both a b c d h [] = refl
total_both a b c d h (x ∷ l) =
    let e : total a l + total b l ≡ total c l + total d l = total_both a b c d h l in
    let f : a x + b x ≡ c x + d x = h x in
    omega arith

pub total_ones : {A : Type 0} (l : List A) → total (λ (x : A). 1) l ≡ length l
unfolding total
total_ones [] = refl
total_ones (x ∷ xs) = let e = total_ones xs in omega arith

pub times_total : {A : Type 0} (c : ℕ) (f : A → ℕ) (l : List A) → total (λ (x : A). c * f x) l ≡ c * total f l
unfolding total
times_total c f [] = sym (mul-zero c)
times_total c f (x ∷ xs) = ap (λ (k : ℕ). c * f x + k) (times_total c f xs) ∙ sym (mul-add c (f x) (total f xs))

-- the sizes before the next one
pub total_suc : {A : Type 0} (l : List (List A)) (j : ℕ) → j < length l → total length (take (suc j) l) ≡ total length (take j l) + length (get_or l j [])
unfolding total
total_suc [] j b = absurd (not-suc-le-zero b)
total_suc (f ∷ l) zero b = omega arith
total_suc (f ∷ l) (suc j) b = let r = total_suc l j (le_of_suc-le-suc b) in omega arith

-- ---- sums over the numbers below n

abbrev pub sum_to : (ℕ → ℕ) → ℕ → ℕ
sum_to E n = total E (tab (λ (j : ℕ). j) n 0)

pub sum_more : (E : ℕ → ℕ) (n : ℕ) → sum_to E (suc n) ≡ sum_to E n + E n
unfolding total
sum_more E n =
    ap (λ (k : ℕ). sum_to E k) (sym (add-one n)) ∙ ap (total E) (tab_snoc (λ (j : ℕ). j) n) ∙ total_append E (tab (λ (j : ℕ). j) n 0) (n ∷ [])
    ∙ ap (λ (k : ℕ). sum_to E n + k) (add-zero (E n))

pub sum_same : (E D : ℕ → ℕ) (n : ℕ) → ((i : ℕ) → i < n → E i ≡ D i) → sum_to E n ≡ sum_to D n
unfolding total tab
sum_same E D zero h = refl
sum_same E D (suc n) h = sum_more E n ∙ (λ t. sum_same E D n (λ i b. h i (omega arith)) t + h n (omega arith) t) ∙ sym (sum_more D n)

pub sum_both : (E D : ℕ → ℕ) (n : ℕ) → sum_to E n + sum_to D n ≡ sum_to (λ i. E i + D i) n
unfolding total tab
sum_both E D zero = refl
sum_both E D (suc n) = omega (arith, sum_more E n, sum_more D n, sum_more (λ i. E i + D i) n, sum_both E D n)

-- E and D differ by what T and X gain from each number to the next, and these come round
module _ (E D T X : ℕ → ℕ) where
  gained : (n : ℕ) → ((i : ℕ) → i < n → E i + T (suc i) + X i ≡ D i + T i + X (suc i)) → sum_to E n + T n + X 0 ≡ sum_to D n + T 0 + X n
  unfolding total tab
  gained zero h = refl
  gained (suc n) h =
      let a = gained n (λ i b. h i (omega arith)) in
      let b = h n (omega arith) in
      omega (arith, a, b, sum_more E n, sum_more D n)

  pub around : (n : ℕ) → ((i : ℕ) → i < n → E i + T (suc i) + X i ≡ D i + T i + X (suc i)) → T n ≡ T 0 → X n ≡ X 0 → sum_to E n ≡ sum_to D n
  around n h t x = omega (arith, gained n h, t, x)
