-- FORMAT 14: the fields of a line, each after a single space (32).
use Rattle.std.specs.Prelude.{ℕ, ◌+◌, Bool, true, false, List, [], ◌∷◌, get_or}
use Rattle.lists.specs.Loops.{pick, tab}
use Rattle.lists.specs.Lists.{flat}
use Rattle.text.specs.Digits.{hexadecimal, decimal}

-- FORMAT 14: a word
unfoldable pub word_field : ℕ → List ℕ
word_field n = 32 ∷ hexadecimal n

-- FORMAT 14: a number
unfoldable pub number_field : ℕ → List ℕ
number_field n = 32 ∷ decimal n

-- FORMAT 14: a word or a number
abbrev pub field_of : Bool → ℕ → List ℕ
field_of true = word_field
field_of false = number_field

-- FORMAT 14: the fields of the m elements of a list from a on
unfoldable pub fields : (ℕ → List ℕ) → List ℕ → ℕ → ℕ → List ℕ
fields field l a m = flat (tab (λ (j : ℕ). field (get_or l (a + j) 0)) m 0)

-- FORMAT 14: a letter and the m words of an attribute from a on, where it was made
unfoldable pub attribute : Bool → ℕ → List ℕ → ℕ → ℕ → List ℕ
attribute made letter l a m = pick made (32 ∷ letter ∷ fields word_field l a m) []
