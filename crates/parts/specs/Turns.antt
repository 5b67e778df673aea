-- Rows that a closure gives for the numbers below n. For the proofs of the parts.
use Rattle.std.specs.Prelude.{◌≡◌, ◌<◌, ◌+◌, ℕ, List, length}
use Rattle.lists.specs.Lists.{flat}
use Rattle.lists.specs.Loops.{tab}

-- it may be called for them
abbrev pub Callable : (ℕ → Type 0) → ℕ → Type 0
Callable pre n = (i : ℕ) → i < n → pre i

-- a row that it gives for i has the elements f i, and there is room up to the end of them all, which stand from place k on
pub record Gives {A R : Type 0} (items : R → List A) (post : ℕ → R → Type 0) (n k : ℕ) (Room : ℕ → Type 0) (f : ℕ → List A) : Type 0 where
  pub row : (i : ℕ) → i < n → (x : R) → post i x → items x ≡ f i
  pub room : Room (k + length (flat (tab f n 0)))
