-- Rows of the table of refusals, of whole blocks. FORMAT 3.
use Prim.Native.Nat.{ℕ}
use mathlib.Core.Path.{◌≡◌, refl}
use mathlib.Core.List.{List, [], ◌∷◌, ◌++◌}
use lib.ListN.{take, set, replicate}
use Rattle.bits.specs.Bits.{field, bytes_of}
use Rattle.block.specs.Edition.{edition1, edition_of}
use Rattle.block.specs.Header.{header_of, counts_of}
use Rattle.block.specs.Extents.{widths, words_in, word_count}
use Rattle.lists.specs.Lists.{all_below}
use Rattle.block.specs.Refusal.{block_rows, first_of}

-- a grid of 2 by 2 points: edition 1, kind 2, ccw, convex and solid
unfoldable pub grid_header : List ℕ
grid_header = bytes_of (0x15c0_0000 ∷ 0x8002_0000 ∷ 0x0040_0000 ∷ 0 ∷ 0 ∷ [])

abbrev pub one_word : ℕ
one_word = 0x3f80_0000

-- its twelve words (crease angle 0 and its cosine, spacing 1, a transform that changes nothing), and four heights 0
unfoldable pub grid_rest : List ℕ
grid_rest = bytes_of (0 ∷ one_word ∷ one_word ∷ one_word ∷ 0 ∷ 0 ∷ 0 ∷ one_word ∷ one_word ∷ one_word ∷ 0 ∷ 0 ∷ 0 ∷ 0 ∷ 0 ∷ 0 ∷ [])

-- the grid with another header
unfoldable pub grid : List ℕ → List ℕ
grid header = header ++ grid_rest

pub grid_counts : (header_of (grid grid_header)).counts ≡ 2 ∷ 2 ∷ 0 ∷ 4 ∷ 0 ∷ 0 ∷ 0 ∷ 0 ∷ []
unfolding grid grid_header grid_rest header_of counts_of edition_of edition1 field
grid_counts = refl

abbrev pub number : List ℕ → ℕ
number bs = first_of (block_rows bs (header_of bs))

-- byte 0 is 4 bits of edition, 3 of kind, ccw; count 0 is the last 4 bits of byte 2, byte 3 and the first 2 bits of byte 4
pub table_rows : (number (grid grid_header) ≡ 0)  -- the grid is taken
    × (number (take 19 grid_header) ≡ 1)  -- its first 19 bytes
    × (number (grid (set grid_header 0 37)) ≡ 2)  -- edition 2
    × (number (grid (set grid_header 19 1)) ≡ 3)  -- the last of the 28 bits is set
    × (number (grid (set (set grid_header 2 8) 4 64)) ≡ 4)  -- count 0 is 8,193
    × (number (grid (set (set grid_header 2 8) 4 0)) ≡ 0)  -- count 0 is 8,192: a side has no words
    × (number (grid grid_header ++ 0 ∷ []) ≡ 5)  -- a byte too many
unfolding grid grid_header grid_rest block_rows first_of all_below header_of counts_of edition_of edition1 widths words_in word_count field
table_rows = (refl, refl, refl, refl, refl, refl, refl)

-- a triangle, fan, strip or quad set without lists, by its first two bytes, but for the words ws; both per-vertex bits are the third and fourth of byte 1
unfoldable pub bare : ℕ → ℕ → List ℕ → List ℕ
bare a b ws = (a ∷ b ∷ replicate 18 0) ++ (replicate 48 0 ++ bytes_of ws)

-- with a colour, normal or texture index of one entry
unfoldable pub indexed : ℕ → ℕ → List ℕ
indexed k v = set (bare 0x19 0x30 (0 ∷ [])) k v

pub attribute_rows : (number (bare 0x19 0x30 []) ≡ 0)  -- the kinds 4 to 7 are taken
    × (number (bare 0x1b 0x30 []) ≡ 0)
    × (number (bare 0x1d 0x30 []) ≡ 0)
    × (number (bare 0x1f 0x30 []) ≡ 0)
    × (number (bare 0x19 0x10 []) ≡ 9)  -- colour not per vertex, no colours present
    × (number (bare 0x1d 0x20 []) ≡ 9)  -- normal not per vertex, no normals present
    × (number (indexed 9 0x10) ≡ 9)  -- an entry of the colour index
    × (number (indexed 12 0x01) ≡ 9)  -- of the normal index
    × (number (indexed 16 0x10) ≡ 9)  -- of the texture index
    × (number (bare 0x19 0x10 (0 ∷ [])) ≡ 5)  -- a word too many: 5 comes before
    × (number (bare 0x11 0x00 []) ≡ 0)  -- a face set has neither to be per vertex
unfolding bare indexed block_rows first_of all_below header_of counts_of edition_of edition1 widths words_in word_count field
attribute_rows = (refl, refl, refl, refl, refl, refl, refl, refl, refl, refl, refl)
