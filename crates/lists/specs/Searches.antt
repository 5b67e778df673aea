-- What a search by number gives, and lists in which no number stands twice.
use Rattle.std.specs.Prelude.{◌≡◌, ℕ, false, List, [], ◌∷◌, ltb, eqb, Option, Some, None}
use Rattle.lists.specs.Loops.{pick, any}

-- what a search of the numbers below n gives, where k is the first that passes; none where k is n
unfoldable pub found : ℕ → ℕ → Option ℕ
found n k = pick (ltb k n) (Some k) None

-- no number stands twice
abbrev pub Once : List ℕ → Type 0
Once [] = Unit
Once (x ∷ l) = (any (eqb x) l ≡ false) × Once l
