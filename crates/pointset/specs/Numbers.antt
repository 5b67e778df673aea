-- FORMAT 17.10, by numbers: of n points, with or without colours. For the proofs.
use Rattle.std.specs.Prelude.{ℕ, ◌*◌, Bool, ◌||◌, cond, List, ltb, length}

-- FORMAT 17.10, 8: one of the lent slices is shorter than what is to be written to it
unfoldable pub is_short : ℕ → Bool → List ℕ → List ℕ → List ℕ → Bool
is_short n made positions colours sources = ltb (length positions) (3 * n) || (ltb (length colours) (cond made (4 * n) 0) || ltb (length sources) n)
