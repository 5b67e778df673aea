-- FORMAT 3, 4, worked: a prism over a closed triangle, with both caps and texture wanted, and slices just long enough, meets what is asked.
use mathlib.Core.Path.{◌≡◌, refl}
use mathlib.Core.Bool.{false}
use mathlib.Core.List.{List, [], ◌∷◌}
use Prim.Native.Nat.{ℕ}
use lib.Ieee.{of_bits, eq}
use Rattle.bits.specs.Bits.{field, bytes_of}
use Rattle.block.specs.Edition.{edition1, edition_of}
use Rattle.block.specs.declared.kind.Kind.TheVariants.{Extrusion}
use Rattle.block.specs.Header.{counts_of, header_of}
use Rattle.block.specs.Extents.{widths, words_in, word_count, list_size, list_at, place_of}
use Rattle.lists.specs.Lists.{all_below}
use Rattle.block.specs.Refusal.{block_rows, first_of}
use Rattle.block.specs.Settings.{settings_of}
use Rattle.block.proofs.TableRows.{one_word, number}
use Rattle.lists.specs.Loops.{tab}
use Rattle.mesh.specs.Arcs.{at2}
use Rattle.mesh.specs.Extrusion.{section_of, closes, cap_length}
use Rattle.mesh.specs.Sizes.{extrusion_sizes, sizes_of, is_no_shape, is_over_corners}
use Rattle.lent.specs.Lent.{Asked}
use Rattle.lent.proofs.Just.{just, just_asked}

-- the five words of the header, the twelve of the settings, 2 spine points, and 4 points of the cross-section
abbrev prism : List ℕ
prism =
    bytes_of
    (0x17c8_3000 ∷ 0x8004_0000 ∷ 0 ∷ 0 ∷ 0
    ∷ 0 ∷ one_word ∷ one_word ∷ one_word ∷ 0 ∷ 0 ∷ 0 ∷ one_word ∷ one_word ∷ one_word ∷ 0 ∷ 0
    ∷ 0 ∷ 0 ∷ 0 ∷ 0 ∷ one_word ∷ 0
    ∷ 0 ∷ 0 ∷ one_word ∷ 0 ∷ 0 ∷ one_word ∷ 0 ∷ 0 ∷ [])

taken : number prism ≡ 0
unfolding block_rows first_of all_below header_of counts_of edition_of edition1 widths words_in word_count field
taken = refl

sizes : (sizes_of prism (header_of prism) ≡ record { points = 8; corners = 18; indices = 24 })
    × (is_no_shape (header_of prism) ≡ false)
    × (is_over_corners prism (header_of prism) ≡ false)
    × ((header_of prism).kind ≡ Extrusion)
unfolding sizes_of extrusion_sizes is_no_shape is_over_corners section_of cap_length closes at2 tab header_of counts_of edition_of edition1 place_of list_at list_size widths words_in field of_bits eq
sizes = (refl, refl, refl, refl)

pub met : Asked Extrusion prism (header_of prism) (settings_of prism) (just (record { points = 8; corners = 18; indices = 24 })) 216 216
met = just_asked taken sizes.3 sizes.0 sizes.1 sizes.2
