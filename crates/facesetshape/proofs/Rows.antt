-- FORMAT 3, 4, worked: a triangle, with slices just long enough, meets what is asked.
use mathlib.Core.Path.{◌≡◌, refl}
use mathlib.Core.Bool.{false}
use mathlib.Core.List.{List, [], ◌∷◌, ◌++◌}
use Prim.Native.Nat.{ℕ}
use lib.ListN.{replicate}
use Rattle.lists.specs.Loops.{tab}
use Rattle.bits.specs.Bits.{field, entries, bytes_of}
use Rattle.block.specs.Edition.{edition1, edition_of}
use Rattle.block.specs.declared.kind.Kind.TheVariants.{FaceSet}
use Rattle.block.specs.Header.{counts_of, header_of}
use Rattle.block.specs.Settings.{settings_of}
use Rattle.block.specs.Extents.{widths, words_in, word_count, list_at, list_size, place_of}
use Rattle.lists.specs.Lists.{all_below}
use Rattle.block.specs.Runs.{ends_run, runs_from, kept, corners, triangles, sum_over}
use Rattle.block.specs.Refusal.{block_rows, first_of}
use Rattle.block.proofs.TableRows.{number}
use Rattle.mesh.specs.Sizes.{face_set_sizes, sizes_of, is_no_shape, is_over_corners}
use Rattle.lent.specs.Lent.{Asked}
use Rattle.lent.proofs.Just.{just, just_asked}

-- edition 1, kind 0, three points and three entries; the twelve words and the points' words are 0
unfoldable pub triangle : List ℕ
triangle = bytes_of ((0x1000_0000 ∷ 0xc003_0000 ∷ 0 ∷ 0 ∷ 0 ∷ []) ++ (replicate 21 0 ++ (0 ∷ 1 ∷ 2 ∷ [])))

accepted : (number triangle ≡ 0)
    × ((header_of triangle).kind ≡ FaceSet)
    × (sizes_of triangle (header_of triangle) ≡ record { points = 3; corners = 3; indices = 3 })
    × (is_no_shape (header_of triangle) ≡ false)
    × (is_over_corners triangle (header_of triangle) ≡ false)
unfolding triangle block_rows first_of all_below header_of counts_of edition_of edition1 widths words_in word_count list_at list_size place_of field tab entries ends_run runs_from kept corners triangles sum_over sizes_of face_set_sizes is_no_shape is_over_corners
accepted = (refl, refl, refl, refl, refl)

pub met : Asked FaceSet triangle (header_of triangle) (settings_of triangle) (just (record { points = 3; corners = 3; indices = 3 })) 56 56
met = just_asked accepted.0 accepted.1 accepted.2 accepted.3 accepted.4
