-- The words of a table that names numbers, or none.
use Rattle.std.specs.Prelude.{Option, Some, None, ℕ, zero, suc}

-- the number that a word names: the word is one more than the number, 0 for none
unfoldable pub named_by : ℕ → Option ℕ
named_by zero = None
named_by (suc n) = Some n
