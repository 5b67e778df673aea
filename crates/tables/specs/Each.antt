-- Words written one after another, each given by its number.
use Rattle.std.specs.Prelude.{◌≡◌, List, ℕ, ◌<◌, length, get_or}
use Rattle.lists.specs.Parts.{spliced}

-- n words, of which P says each, stand in w' in place of those of w from `at` on
pub record PutEach (P : ℕ → ℕ → Type 0) (at n : ℕ) (w w' : List ℕ) : Type 0 where
  pub words : List ℕ
  pub long : length words ≡ n
  pub says : (i : ℕ) → i < n → P i (get_or words i 0)
  pub made : w' ≡ spliced w at words
