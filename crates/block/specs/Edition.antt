-- What an edition fixes of a block. FORMAT 2.2, 2.5, 3. No other place has these numbers.
use Rattle.std.specs.Prelude.{ℕ, ◌+◌, ◌*◌, Bool, List, eqb}
use Rattle.bits.specs.Bits.{field}
use Rattle.block.specs.declared.edition.Edition.{Edition}

-- FORMAT 2.2, 3: edition 1: a header of 5 words, with 8 counts of 14 bits and 28 zero bits; the limit of the refusals 4 and 7
unfoldable pub edition1 : Edition
edition1 = record { header_words = 5; counts = 8; count_bits = 14; zero_bits = 28; limit = 8192 }

-- FORMAT 3, 2: the editions that are read
abbrev pub is_known : ℕ → Bool
is_known n = eqb n 1

-- FORMAT 2.2: what the edition numbered n fixes; one that is not known is read as the first, and refused
unfoldable pub edition_of : ℕ → Edition
edition_of n = edition1

-- FORMAT 3, 4 and 7: the limit of a block of the edition numbered n
abbrev pub limit_of : ℕ → ℕ
limit_of n = (edition_of n).limit

-- FORMAT 3, 4 and 7: no edition's limit is above it
abbrev pub highest : ℕ
highest = 131072

-- a bound of the tables' own (FORMAT 4, 8), above every limit: no count of theirs is above it
abbrev pub most : ℕ
most = 2 * highest

-- FORMAT 2.2: the edition of a block: its first 4 bits
abbrev pub edition_in : List ℕ → Edition
edition_in bs = edition_of (field bs 0 4)

-- FORMAT 2.2: the counts stand after edition, kind and thirteen single bits, and the zero bits after the counts
abbrev pub counts_at : ℕ
counts_at = 4 + 3 + 13

abbrev pub zeros_at : Edition → ℕ
zeros_at e = counts_at + e.counts * e.count_bits

-- FORMAT 2.2: the bytes of the header
abbrev pub header_bytes : Edition → ℕ
header_bytes e = 4 * e.header_words

-- FORMAT 2.3, 2.5: the words before the lists: those of the header, and twelve
abbrev pub words_ahead : Edition → ℕ
words_ahead e = e.header_words + 12
