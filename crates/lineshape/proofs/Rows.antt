-- FORMAT 3, 4, worked: a line between two points, with slices just long enough, meets what is asked.
use mathlib.Core.Path.{◌≡◌, refl}
use mathlib.Core.Bool.{false}
use mathlib.Core.List.{List, [], ◌∷◌, ◌++◌}
use Prim.Native.Nat.{ℕ}
use lib.ListN.{replicate}
use Rattle.lists.specs.Loops.{tab}
use Rattle.bits.specs.Bits.{field, entries, bytes_of}
use Rattle.block.specs.Edition.{edition1, edition_of}
use Rattle.block.specs.declared.kind.Kind.TheVariants.{LineSet}
use Rattle.block.specs.Header.{counts_of, header_of}
use Rattle.block.specs.Settings.{settings_of}
use Rattle.block.specs.Extents.{widths, words_in, word_count, list_at, list_size, place_of}
use Rattle.lists.specs.Lists.{all_below}
use Rattle.block.specs.Runs.{ends_run, runs_from, sum_over}
use Rattle.block.specs.Refusal.{block_rows, first_of}
use Rattle.block.proofs.TableRows.{number}
use Rattle.mesh.specs.Sizes.{named, lines_after, line_set_sizes, sizes_of, is_no_shape, is_over_corners}
use Rattle.lent.specs.Lent.{Asked}
use Rattle.lent.proofs.Just.{just, just_asked}

-- edition 1, kind 1, two points and two entries; the twelve words and the points' words are 0
unfoldable pub segment : List ℕ
segment = bytes_of ((0x1200_0000 ∷ 0x8002_0000 ∷ 0 ∷ 0 ∷ 0 ∷ []) ++ (replicate 18 0 ++ (0 ∷ 1 ∷ [])))

accepted : (number segment ≡ 0)
    × ((header_of segment).kind ≡ LineSet)
    × (sizes_of segment (header_of segment) ≡ record { points = 2; corners = 2; indices = 2 })
    × (is_no_shape (header_of segment) ≡ false)
    × (is_over_corners segment (header_of segment) ≡ false)
unfolding segment block_rows first_of all_below header_of counts_of edition_of edition1 widths words_in word_count list_at list_size place_of field tab entries ends_run runs_from sum_over sizes_of line_set_sizes named lines_after is_no_shape is_over_corners
accepted = (refl, refl, refl, refl, refl)

pub met : Asked LineSet segment (header_of segment) (settings_of segment) (just (record { points = 2; corners = 2; indices = 2 })) 40 40
met = just_asked accepted.0 accepted.1 accepted.2 accepted.3 accepted.4
