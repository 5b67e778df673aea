-- One turn, and the end, of each loop of the definitions, as a `while i < n` has it: n - i turns are left at i. And laws of places around a ring.
use mathlib.Core.Path.{◌≡◌, refl, sym, ap, ◌∙◌}
use mathlib.Core.Bool.{Bool, true, false}
use mathlib.Core.List.{List}
use Prim.Native.Nat.{ℕ, zero, suc, ◌+◌, ◌-◌, ◌%◌, ◌≤◌, ◌<◌}
use native.Mathlib.Nat.{sub-zero, mod-eq_of_lt, add-mod_right, mod_self, eq-or-lt_of_le}
use native.Mathlib.Numerals.{add-one}
use native.Mathlib.Omega.{arith}
use mathlib.Core.Logic.{⊎_elim}
use lib.ListN.{set, length, get_or, replicate, get_or-replicate}
use lib.Seq.{sets, get_or-set_same, get_or-set_other}
use Rattle.lists.specs.Loops.{pick, tab, run, first}
use Rattle.lists.specs.Parts.{Full}

left_suc : (n i : ℕ) → i < n → n - i ≡ suc (n - (i + 1))
left_suc n i h = omega arith

left_none : (n i : ℕ) → n ≤ i → n - i ≡ 0
left_none n i h = omega arith

-- ---- a search by number

module _ (f : ℕ → Bool) (n i : ℕ) where
  pub first_go : i < n → f i ≡ false → first f (n - i) i ≡ first f (n - (i + 1)) (i + 1)
  unfolding first
  first_go h e =
      ap (λ (k : ℕ). first f k i) (left_suc n i h)
      ∙ ap (λ (b : Bool). pick b i (first f (n - (i + 1)) (suc i))) e
      ∙ ap (λ (j : ℕ). first f (n - (i + 1)) j) (sym (add-one i))

  pub first_stop : i < n → f i ≡ true → first f (n - i) i ≡ i
  unfolding first
  first_stop h e = ap (λ (k : ℕ). first f k i) (left_suc n i h) ∙ ap (λ (b : Bool). pick b i (first f (n - (i + 1)) (suc i))) e

  pub first_end : n ≤ i → first f (n - i) i ≡ i
  unfolding first
  first_end h = ap (λ (k : ℕ). first f k i) (left_none n i h)

-- ---- a sum, or any other thing that is carried from turn to turn

module _ {A : Type 0} (f : ℕ → A → A) (n i : ℕ) (s : A) where
  pub run_go : i < n → run f (n - i) i s ≡ run f (n - (i + 1)) (i + 1) (f i s)
  unfolding run
  run_go h = ap (λ (k : ℕ). run f k i s) (left_suc n i h) ∙ ap (λ (j : ℕ). run f (n - (i + 1)) j (f i s)) (sym (add-one i))

  pub run_end : n ≤ i → run f (n - i) i s ≡ s
  unfolding run
  run_end h = ap (λ (k : ℕ). run f k i s) (left_none n i h)

-- a list that keeps its length: of n turns t are made
pub record Running {A : Type 0} (f : ℕ → List A → List A) (n : ℕ) (l₀ : List A) (t : ℕ) (l : List A) : Type 0 where
  pub so_far : t ≤ n
  pub size : length l ≡ length l₀
  pub rest : run f (n - t) t l ≡ run f n 0 l₀

module _ {A : Type 0} {f : ℕ → List A → List A} {n : ℕ} {l₀ : List A} where
  pub running_none : Running f n l₀ 0 l₀
  running_none = record { so_far = omega arith; size = refl; rest = rw sub-zero refl }

  pub running_more : {t : ℕ} {l r : List A} → Running f n l₀ t l → t < n → r ≡ f t l → length r ≡ length l → Running f n l₀ (t + 1) r
  running_more {t} {l} {r} R b e s = record {
    so_far = omega arith;
    size = s ∙ R.size;
    rest = ap (λ (x : List A). run f (n - (t + 1)) (t + 1) x) e ∙ sym (run_go f n t l b) ∙ R.rest;
  }

  pub running_all : {t : ℕ} {l : List A} → Running f n l₀ t l → n ≤ t → l ≡ run f n 0 l₀
  running_all {t} {l} R b = sym (run_end f n t l b) ∙ R.rest

-- turns that leave it as it is
pub run_kept : {A : Type 0} (f : ℕ → A → A) (x : A) → ((t : ℕ) → f t x ≡ x) → (k t : ℕ) → run f k t x ≡ x
unfolding run
run_kept f x e zero t = refl
run_kept {A} f x e (suc k) t = ap (λ (y : A). run f k (suc t) y) (e t) ∙ run_kept f x e k (suc t)

-- a sum that is 0 has nothing but zeros
pub none_counted : (f : ℕ → ℕ) (k i s : ℕ) → run (λ (j r : ℕ). r + f j) k i s ≡ 0 → (s ≡ 0) × ((j : ℕ) → i ≤ j → j < i + k → f j ≡ 0)
unfolding run
none_counted f zero i s e = (e, λ (j : ℕ) (a : i ≤ j) (b : j < i + 0). let z : ⊥ = omega arith in absurd z)
none_counted f (suc k) i s e =
    let r = none_counted f k (suc i) (s + f i) e in
    let q : s + f i ≡ 0 = r.0 in (
      omega arith,
      λ (j : ℕ) (a : i ≤ j) (b : j < i + suc k).
          ⊎_elim (λ (w : i ≡ j). ap f (sym w) ∙ last (s + f i) (f i) q (omega arith)) (λ (w : i < j). r.1 j w (omega arith)) (eq-or-lt_of_le a),
    )
  where
    last : (n m : ℕ) → n ≡ 0 → m ≤ n → m ≡ 0
    last n m e h = omega arith

-- ---- a list that is filled

module _ {A : Type 0} (f : ℕ → A) (n i : ℕ) (l : List A) where
  pub tab_go : i < n → sets l i (tab f (n - i) i) ≡ sets (set l i (f i)) (i + 1) (tab f (n - (i + 1)) (i + 1))
  unfolding tab
  tab_go h =
      ap (λ (k : ℕ). sets l i (tab f k i)) (left_suc n i h)
      ∙ ap (λ (j : ℕ). sets (set l i (f i)) j (tab f (n - (i + 1)) j)) (sym (add-one i))

  pub tab_end : n ≤ i → sets l i (tab f (n - i) i) ≡ l
  unfolding tab
  tab_end h = ap (λ (k : ℕ). sets l i (tab f k i)) (left_none n i h)

-- ---- the places before and after place i of m, around

module _ (m i : ℕ) (h : i < m) where
  pub back_zero : i ≡ 0 → m - 1 ≡ (i + m - 1) % m
  back_zero e = let w : i + m - 1 ≡ m - 1 = omega arith in sym (ap (λ (k : ℕ). k % m) w ∙ mod-eq_of_lt (omega arith))

  pub back_some : (i ≡ 0 → ⊥) → i - 1 ≡ (i + m - 1) % m
  back_some n = let w : i + m - 1 ≡ (i - 1) + m = omega arith in sym (ap (λ (k : ℕ). k % m) w ∙ add-mod_right (i - 1) m ∙ mod-eq_of_lt (omega arith))

  pub on_last : i + 1 ≡ m → 0 ≡ (i + 1) % m
  on_last e = sym (ap (λ (k : ℕ). k % m) e ∙ mod_self m)

  pub on_more : (i + 1 ≡ m → ⊥) → i + 1 ≡ (i + 1) % m
  on_more n = sym (mod-eq_of_lt (omega arith))

-- what `fill` leaves
pub full_of : (v n : ℕ) (l : List ℕ) → l ≡ replicate n v → Full v n l
full_of v n l e = λ (j : ℕ) (h : j < n). ap (λ (r : List ℕ). get_or r j 0) e ∙ get_or-replicate n j v 0 h

pub full_go : (v i : ℕ) (s s' : List ℕ) → Full v i s → i < length s → s' ≡ set s i v → Full v (i + 1) s'
full_go v i s s' f h e j q = rw e (⊎_elim last less (eq-or-lt_of_le u))
  where
    u : j ≤ i
    u = omega arith

    last : j ≡ i → get_or (set s i v) j 0 ≡ v
    last w = ap (λ (k : ℕ). get_or (set s i v) k 0) w ∙ get_or-set_same s i v 0 h

    less : j < i → get_or (set s i v) j 0 ≡ v
    less w = get_or-set_other s i j v 0 (λ (z : j ≡ i). omega arith) ∙ f j w
