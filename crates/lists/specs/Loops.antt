-- The loops of the source as recursive functions, with the number of turns that are left as fuel: what `for i in i..n` finds with k = n - i turns to go.
use Rattle.std.specs.Prelude.{ℕ, zero, suc, Bool, true, false, List, [], ◌∷◌}

abbrev pub pick {ℓ} : {A : Type ℓ} → Bool → A → A → A
pick true a b = a
pick false a b = b

module _ {ℓ} {A : Type ℓ} where
  -- whether some element passes the test
  unfoldable pub any : (A → Bool) → List A → Bool
  any f [] = false
  any f (x ∷ xs) = let r = any f xs in pick (f x) true r

  -- f i ∷ f (i + 1) ∷ .. : k of them
  unfoldable pub tab : (ℕ → A) → ℕ → ℕ → List A
  tab f zero i = []
  tab f (suc k) i = f i ∷ tab f k (suc i)

  -- s, then f i s, then f (i + 1) of that, ..: k times
  unfoldable pub run : (ℕ → A → A) → ℕ → ℕ → A → A
  run f zero i s = s
  run f (suc k) i s = run f k (suc i) (f i s)

  -- what holds of each element
  abbrev pub All : (A → Type 0) → List A → Type 0
  All Q [] = Unit {0}
  All Q (x ∷ xs) = Q x × All Q xs

-- the first of the k numbers from i on that passes the test; i + k where none does
unfoldable pub first : (ℕ → Bool) → ℕ → ℕ → ℕ
first f zero i = i
first f (suc k) i = let r = first f k (suc i) in pick (f i) i r
