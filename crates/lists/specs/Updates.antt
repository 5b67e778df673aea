-- The elements of a list changed one by one.
use Rattle.std.specs.Prelude.{ℕ, zero, suc, List, [], ◌∷◌, get_or, set}

module _ {A : Type 0} where
  -- the element at j changed by g; d is what is read past the end, where nothing is changed
  unfoldable pub changed : A → (ℕ → A → A) → ℕ → List A → List A
  changed d g j l = set l j (g j (get_or l j d))

  -- the first k elements changed by g, each with its number
  unfoldable pub updated : (ℕ → A → A) → ℕ → List A → List A
  updated g zero l = l
  updated g (suc k) [] = []
  updated g (suc k) (x ∷ xs) = g 0 x ∷ updated (λ (i : ℕ). g (suc i)) k xs
