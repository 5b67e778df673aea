-- A table is a part of the words. Tables are written one after another, so what stands below the one that is written is kept.
use Rattle.std.specs.Prelude.{◌≡◌, ◌⊎◌, List, ◌++◌, ℕ, ◌+◌, ◌≤◌, ◌<◌, length, get_or, take, drop}

-- the n elements from a
unfoldable pub seg : {A : Type 0} → List A → ℕ → ℕ → List A
seg w a n = take n (drop a w)

-- l with what stands from a on replaced by p
unfoldable pub spliced : {A : Type 0} → List A → ℕ → List A → List A
spliced l a p = take a l ++ p ++ drop (a + length p) l

-- xs was put into l from place a on by `put`, and b is the next place
pub record Added {A B : Type 0} (put : List B → ℕ → List A → List B) (xs : List A) (a : ℕ) (l : List B) (b : ℕ) (l' : List B) : Type 0 where
  pub next : b ≡ a + length xs
  pub made : l' ≡ put l a xs

-- the place i is not among the n from a
abbrev pub Out : ℕ → ℕ → ℕ → Type 0
Out a n i = (i < a) ⊎ (a + n ≤ i)

-- w' has what w has below a, and as many
pub record Kept {A : Type 0} (a : ℕ) (w w' : List A) : Type 0 where
  pub len : length w' ≡ length w
  pub front : take a w' ≡ take a w

-- Words: what is read past the end is 0, as the code reads it. The n words from a are f 0, f 1, ..
pub record TableOf (w : List ℕ) (a n : ℕ) (f : ℕ → ℕ) : Type 0 where
  pub at : (j : ℕ) → j < n → get_or w (a + j) 0 ≡ f j

-- the first n words are v
abbrev pub Full : ℕ → ℕ → List ℕ → Type 0
Full v n l = (j : ℕ) → j < n → get_or l j 0 ≡ v
