-- FORMAT 6.4: listings by computation.
use mathlib.Core.Path.{◌≡◌, refl}
use mathlib.Core.List.{[], ◌∷◌}
use Rattle.block.specs.declared.topology.Topology.TheVariants.{Triangles, Strips}
use Rattle.block.specs.Runs.{ends_run, runs_from}
use Rattle.lists.specs.Loops.{tab}
use Rattle.lists.specs.Lists.{map_n, flat, all_below}
use Rattle.primitives.specs.Primitives.{stretches, primitive_count, places_of, primitive_of}
use Rattle.primitives.specs.Kept.{piece_of, kept_by, kept_over}
use Rattle.faceset.specs.Listings.{use_of}
use Rattle.primitiveset.specs.Listings.{uses_of, primitive_uses, listing_of, primitive_listings}

-- the second strip's triangles keep their own places; the first, with a bad entry, has none, and faces are numbered from 0 on
strip_row : primitive_listings 9 Strips (0 ∷ 9 ∷ 2 ∷ 0xffff_ffff ∷ 5 ∷ 6 ∷ 7 ∷ 8 ∷ [])
    ≡ listing_of 0 (use_of 4 5 ∷ use_of 5 6 ∷ use_of 6 7 ∷ []) ∷ listing_of 1 (use_of 6 7 ∷ use_of 5 6 ∷ use_of 7 8 ∷ []) ∷ []
unfolding primitive_listings primitive_uses uses_of kept_over kept_by piece_of stretches primitive_count places_of primitive_of runs_from ends_run all_below tab flat map_n
strip_row = refl

-- a triple that names no listed point is skipped, and the next begins where it ends
triangle_row : primitive_listings 3 Triangles (0 ∷ 1 ∷ 3 ∷ 2 ∷ 1 ∷ 0 ∷ 1 ∷ []) ≡ listing_of 0 (use_of 3 2 ∷ use_of 4 1 ∷ use_of 5 0 ∷ []) ∷ []
unfolding primitive_listings primitive_uses uses_of kept_over kept_by piece_of stretches primitive_count places_of primitive_of all_below tab flat map_n
triangle_row = refl
