-- FORMAT 3, worked: a block of each kind from 0 to 3 with slices just long enough is not refused, and each row but 9 refuses one; PrimitiveRows has the rest.
use mathlib.Core.Path.{◌≡◌, refl}
use mathlib.Core.List.{List, [], ◌∷◌, ◌++◌}
use Prim.Native.Nat.{ℕ, ◌+◌, ◌-◌, ◌*◌}
use lib.Ieee.{of_bits, eq}
use lib.ListN.{take, set, replicate}
use Rattle.bits.specs.Bits.{field, entries, bytes_of}
use Rattle.block.specs.declared.kind.Kind.TheVariants.{FaceSet, LineSet, Grid, Extrusion}
use Rattle.block.specs.Edition.{edition1, edition_of}
use Rattle.block.specs.Header.{counts_of, header_of}
use Rattle.block.specs.Extents.{widths, words_in, word_count, list_at, list_size, place_of}
use Rattle.lists.specs.Lists.{all_below}
use Rattle.block.specs.Runs.{ends_run, runs_from, kept, corners, triangles, sum_over}
use Rattle.block.specs.Refusal.{block_rows, first_of}
use Rattle.block.proofs.TableRows.{grid_header, grid_rest, grid}
use Rattle.lists.specs.Loops.{tab}
use Rattle.mesh.specs.Arcs.{at2}
use Rattle.mesh.specs.Extrusion.{section_of, closes, cap_length}
use Rattle.mesh.specs.Sizes.{named, lines_after, face_set_sizes, line_set_sizes, grid_sizes, extrusion_sizes, sizes_of, is_no_shape, is_over_corners, shape_rows}
use Rattle.geometry.specs.declared.answer.Lengths.{Lengths}
use Rattle.geometry.specs.Answer.{is_short, rows, refusal}

-- FORMAT 4: just long enough for P points, C corners and N indices, but for `less` floats
abbrev pub lent : ℕ → ℕ → ℕ → ℕ → Lengths
lent p c n less =
    let w = 8 * (c + p) + 8 in
    record { positions = 3 * c; normals = 3 * c; colours = 4 * c; textures = 2 * c; sources = c; indices = n; words = w; floats = w - less }

abbrev pub none : Lengths
none = record { positions = 0; normals = 0; colours = 0; textures = 0; sources = 0; indices = 0; words = 0; floats = 0 }

-- the first two words of a header and, after it, n words 0
abbrev blank : ℕ → ℕ → ℕ → List ℕ
blank a b n = bytes_of (a ∷ b ∷ 0 ∷ 0 ∷ 0 ∷ []) ++ replicate (4 * n) 0

-- three points, and an index for each
pub face_set_row : let bs = blank 0x1000_0000 0xc003_0000 21 ++ bytes_of (0 ∷ 1 ∷ 2 ∷ []) in (refusal bs (lent 3 3 3 0) ≡ 0) × ((header_of bs).kind ≡ FaceSet)
unfolding refusal rows is_short shape_rows block_rows first_of all_below header_of counts_of edition_of edition1 widths words_in word_count list_at list_size place_of field tab entries ends_run runs_from kept corners triangles sum_over sizes_of face_set_sizes is_no_shape is_over_corners
face_set_row = (refl, refl)

-- two points, and a line between them
pub line_set_row : let bs = blank 0x1200_0000 0x8002_0000 18 ++ bytes_of (0 ∷ 1 ∷ []) in (refusal bs (lent 2 2 2 0) ≡ 0) × ((header_of bs).kind ≡ LineSet)
unfolding refusal rows is_short shape_rows block_rows first_of all_below header_of counts_of edition_of edition1 widths words_in word_count list_at list_size place_of field tab entries ends_run runs_from sum_over sizes_of line_set_sizes named lines_after is_no_shape is_over_corners
line_set_row = (refl, refl)

-- two points of the spine and two of the cross-section, without caps; 91 of each make 8,281 points
pub extrusion_row : let bs = blank 0x1600_0000 0x8002_0000 22 in
    (refusal bs (lent 4 4 6 0) ≡ 0) × ((header_of bs).kind ≡ Extrusion) × (refusal (blank 0x1600_0016 0xc05b_0000 467) none ≡ 7)
unfolding refusal rows is_short shape_rows block_rows first_of all_below header_of counts_of edition_of edition1 widths words_in word_count list_at list_size place_of field sizes_of extrusion_sizes section_of cap_length closes at2 tab is_no_shape is_over_corners of_bits eq
extrusion_row = (refl, refl, refl)

-- the 2 by 2 grid, and what is refused in its place. Byte 0 is 4 bits of edition, 3 of kind, ccw; count 0 is the last 4 bits of byte 2, byte 3 and
-- the first 2 bits of byte 4; count 1 ends with byte 5
pub grid_rows : (refusal (grid grid_header) (lent 4 4 6 0) ≡ 0)
    × ((header_of (grid grid_header)).kind ≡ Grid)
    × (refusal (take 19 grid_header) none ≡ 1)
    × (refusal (grid (set grid_header 0 37)) none ≡ 2)  -- edition 2
    × (refusal (grid (set grid_header 19 1)) none ≡ 3)  -- the last of the 28 bits is set
    × (refusal (grid (set (set grid_header 2 8) 4 64)) none ≡ 4)  -- count 0 is 8,193
    × (refusal (grid grid_header ++ 0 ∷ []) none ≡ 5)  -- a byte too many
    × (refusal (grid (set grid_header 5 1)) none ≡ 6)  -- 2 by 1
    × (refusal (grid grid_header) (lent 4 4 6 1) ≡ 8)  -- a float too few
unfolding refusal rows is_short shape_rows grid grid_header grid_rest block_rows first_of all_below header_of counts_of edition_of edition1 widths words_in word_count field sizes_of grid_sizes is_no_shape is_over_corners
grid_rows = (refl, refl, refl, refl, refl, refl, refl, refl, refl)
