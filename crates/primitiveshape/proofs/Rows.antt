-- FORMAT 3, 4, worked: a triangle set of one triangle, with slices just long enough, meets what is asked.
use mathlib.Core.Path.{◌≡◌, refl}
use mathlib.Core.Bool.{false}
use mathlib.Core.List.{List, [], ◌∷◌, ◌++◌}
use Prim.Native.Nat.{ℕ}
use lib.ListN.{replicate}
use Rattle.bits.specs.Bits.{field, entries, bytes_of}
use Rattle.block.specs.Edition.{edition1, edition_of}
use Rattle.block.specs.declared.kind.Kind.TheVariants.{Primitives}
use Rattle.block.specs.declared.topology.Topology.TheVariants.{Triangles}
use Rattle.block.specs.Header.{counts_of, header_of}
use Rattle.block.specs.Settings.{settings_of}
use Rattle.block.specs.Extents.{widths, words_in, word_count, list_at, list_size, place_of}
use Rattle.block.specs.Runs.{ends_run, runs_from, kept, corners, triangles, sum_over}
use Rattle.block.specs.Refusal.{block_rows, first_of}
use Rattle.block.proofs.TableRows.{number}
use Rattle.lists.specs.Loops.{tab}
use Rattle.lists.specs.Lists.{flat, all_below}
use Rattle.primitives.specs.Primitives.{stretches, primitive_count, places_of, primitive_of, primitive_run, stretch_runs, face_list}
use Rattle.mesh.specs.Sizes.{primitive_sizes, sizes_of, is_no_shape, is_over_corners}
use Rattle.lent.specs.Lent.{Asked}
use Rattle.lent.proofs.Just.{just, just_asked}

-- edition 1, kind 4, both per-vertex bits, three points and three entries; the twelve words and the points' words are 0
unfoldable pub triangle : List ℕ
triangle = bytes_of ((0x1830_0000 ∷ 0xc003_0000 ∷ 0 ∷ 0 ∷ 0 ∷ []) ++ (replicate 21 0 ++ (0 ∷ 1 ∷ 2 ∷ [])))

accepted : (number triangle ≡ 0)
    × ((header_of triangle).kind ≡ Primitives Triangles)
    × (sizes_of triangle (header_of triangle) ≡ record { points = 3; corners = 3; indices = 3 })
    × (is_no_shape (header_of triangle) ≡ false)
    × (is_over_corners triangle (header_of triangle) ≡ false)
unfolding triangle block_rows first_of all_below header_of counts_of edition_of edition1 widths words_in word_count list_at list_size place_of field tab entries ends_run runs_from kept corners triangles sum_over sizes_of primitive_sizes face_list stretches primitive_count places_of primitive_of primitive_run stretch_runs flat is_no_shape is_over_corners
accepted = (refl, refl, refl, refl, refl)

pub met : Asked (Primitives Triangles) triangle (header_of triangle) (settings_of triangle) (just (record { points = 3; corners = 3; indices = 3 })) 56 56
met = just_asked accepted.0 accepted.1 accepted.2 accepted.3 accepted.4
