-- The first elements of a list changed one by one; passes over the same elements are one pass.
use mathlib.Core.Path.{◌≡◌, refl, ap, ◌∙◌}
use mathlib.Core.List.{List, [], ◌∷◌}
use Prim.Native.Nat.{ℕ, zero, suc, ◌+◌, ◌≤◌, ◌<◌, suc-le-suc}
use native.Mathlib.Omega.{arith}
use lib.ListN.{get_or, replicate, set, length-set}
use Rattle.lists.specs.Loops.{tab, run}
use Rattle.lists.specs.Updates.{changed, updated}
use Rattle.lists.proofs.Loops.{Running, running_more, running_all}
use Rattle.lists.proofs.Tabs.{tab_shift}

module _ {A : Type 0} where
  -- ---- a loop that changes one element at each turn

  run_nil : (d : A) (g : ℕ → A → A) (k j : ℕ) → run (changed d g) k j [] ≡ []
  unfolding run changed
  run_nil d g zero j = refl
  run_nil d g (suc k) j = run_nil d g k (suc j)

  run_behind : (d : A) (g : ℕ → A → A) (k j : ℕ) (x : A) (xs : List A) → run (changed d g) k (suc j) (x ∷ xs) ≡ x ∷ run (changed d (λ (i : ℕ). g (suc i))) k j xs
  unfolding run changed
  run_behind d g zero j x xs = refl
  run_behind d g (suc k) j x xs = run_behind d g k (suc j) x (set xs j (g (suc j) (get_or xs j d)))

  run_updated : (d : A) (g : ℕ → A → A) (k : ℕ) (l : List A) → run (changed d g) k 0 l ≡ updated g k l
  unfolding run changed updated
  run_updated d g zero l = refl
  run_updated d g (suc k) [] = run_nil d g k 1
  run_updated d g (suc k) (x ∷ xs) = run_behind d g k 0 (g 0 x) xs ∙ ap (λ (r : List A). g 0 x ∷ r) (run_updated d (λ (i : ℕ). g (suc i)) k xs)

  -- one turn of it, and its end
  module _ (d : A) (g : ℕ → A → A) {m : ℕ} {l₀ l : List A} {j : ℕ} where
    pub changed_more : {v : A} → Running (changed d g) m l₀ j l → j < m → v ≡ g j (get_or l j d) → Running (changed d g) m l₀ (j + 1) (set l j v)
    unfolding changed
    changed_more {v} R b e = running_more R b (ap (set l j) e) (length-set l j v)

    pub changed_all : Running (changed d g) m l₀ j l → m ≤ j → l ≡ updated g m l₀
    changed_all R b = running_all R b ∙ run_updated d g m l₀

  -- ---- passes

  updated_twice : (h g : ℕ → A → A) (k : ℕ) (l : List A) → updated h k (updated g k l) ≡ updated (λ (j : ℕ) (x : A). h j (g j x)) k l
  unfolding updated
  updated_twice h g zero l = refl
  updated_twice h g (suc k) [] = refl
  updated_twice h g (suc k) (x ∷ xs) = ap (λ (r : List A). h 0 (g 0 x) ∷ r) (updated_twice (λ (i : ℕ). h (suc i)) (λ (i : ℕ). g (suc i)) k xs)

  -- k passes over m elements are one pass, in which each element has its own k turns
  pub passes : (g : ℕ → ℕ → A → A) (m k t : ℕ) (h : ℕ → A → A) (l : List A)
      → run (λ (s : ℕ) (r : List A). updated (g s) m r) k t (updated h m l) ≡ updated (λ (j : ℕ) (x : A). run (λ (s : ℕ) (y : A). g s j y) k t (h j x)) m l
  unfolding run
  passes g m zero t h l = refl
  passes g m (suc k) t h l =
      ap (λ (r : List A). run (λ (s : ℕ) (r : List A). updated (g s) m r) k (suc t) r) (updated_twice (g t) h m l)
      ∙ passes g m k (suc t) (λ (j : ℕ) (x : A). g t j (h j x)) l

  -- two changes that agree on the first k
  pub updated_same : (g h : ℕ → A → A) (k : ℕ) (l : List A) → ((j : ℕ) → j < k → (x : A) → g j x ≡ h j x) → updated g k l ≡ updated h k l
  unfolding updated
  updated_same g h zero l e = refl
  updated_same g h (suc k) [] e = refl
  updated_same g h (suc k) (x ∷ xs) e =
      λ n. e 0 (omega arith) x n ∷ updated_same (λ (i : ℕ). g (suc i)) (λ (i : ℕ). h (suc i)) k xs (λ (j : ℕ) (w : j < k) (y : A). e (suc j) (suc-le-suc w) y) n

  -- a change that does not look at what was there
  pub updated_tab : (f : ℕ → A) (k : ℕ) (v : A) → updated (λ (j : ℕ) (x : A). f j) k (replicate k v) ≡ tab f k 0
  unfolding updated tab
  updated_tab f zero v = refl
  updated_tab f (suc k) v =
      ap (λ (r : List A). f 0 ∷ r)
      (updated_tab (λ (i : ℕ). f (suc i)) k v
      ∙ tab_shift (λ (i : ℕ). f (suc i)) f k 0 1 (λ (t : ℕ) (b : t < k). let e : suc (0 + t) ≡ 1 + t = omega arith in ap f e))

  -- a change that leaves the first k as they are
  pub updated_kept : (d : A) (g : ℕ → A → A) (k : ℕ) (l : List A) → ((j : ℕ) → j < k → g j (get_or l j d) ≡ get_or l j d) → updated g k l ≡ l
  unfolding updated
  updated_kept d g zero l e = refl
  updated_kept d g (suc k) [] e = refl
  updated_kept d g (suc k) (x ∷ xs) e = λ n. e 0 (omega arith) n ∷ updated_kept d (λ (i : ℕ). g (suc i)) k xs (λ (j : ℕ) (w : j < k). e (suc j) (suc-le-suc w)) n
