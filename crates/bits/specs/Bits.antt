-- Fields of bits in a list of bytes, packed most significant bit first; words; the entries of an index list. FORMAT 2.1.
use Rattle.std.specs.Prelude.{ℕ, zero, suc, ◌+◌, ◌-◌, ◌*◌, ◌/◌, ◌%◌, ◌^◌, List, [], ◌∷◌, length, get_or}
use Rattle.lists.specs.Loops.{tab}

-- bit i of the bytes: bit 0 is the most significant bit of byte 0
abbrev pub bit_at : List ℕ → ℕ → ℕ
bit_at bs i = get_or bs (i / 8) 0 / 2 ^ (7 - i % 8) % 2

-- the number that the n bits from bit i on write
unfoldable pub field : List ℕ → ℕ → ℕ → ℕ
field bs i zero = 0
field bs i (suc n) = field bs i n * 2 + bit_at bs (i + n)

-- the word whose first byte is byte `at`: a field of 32 bits
abbrev pub word_at : List ℕ → ℕ → ℕ
word_at bs at = field bs (at * 8) 32

-- the entries of an index list: four bytes each
unfoldable pub entries : List ℕ → List ℕ
entries bs = tab (λ k. word_at bs (4 * k)) (length bs / 4) 0

-- the bytes of words, four each
abbrev pub bytes_of : List ℕ → List ℕ
bytes_of [] = []
bytes_of (w ∷ ws) = w / 2 ^ 24 ∷ w / 2 ^ 16 % 256 ∷ w / 2 ^ 8 % 256 ∷ w % 256 ∷ bytes_of ws
