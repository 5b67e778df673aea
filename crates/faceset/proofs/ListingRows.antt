-- FORMAT 6.1, 6.2: listings by computation.
use mathlib.Core.Path.{◌≡◌, refl}
use mathlib.Core.List.{[], ◌∷◌}
use Prim.Native.Nat.{ℕ}
use Rattle.block.specs.Runs.{ends_run, runs_from, kept}
use Rattle.lists.specs.Lists.{map_n, join_n, all_below}
use Rattle.faceset.specs.Listings.{use_of, listed, listings_of}

abbrev minus_one : ℕ
minus_one = 0xffff_ffff

-- a short run is skipped and counts; the last run needs no closing entry
second_is_short : listings_of 4 (0 ∷ 1 ∷ 2 ∷ minus_one ∷ 0 ∷ 1 ∷ minus_one ∷ 1 ∷ 2 ∷ 3 ∷ [])
    ≡ record { number = 0; uses = use_of 0 0 ∷ use_of 1 1 ∷ use_of 2 2 ∷ [] } ∷ record { number = 2; uses = use_of 7 1 ∷ use_of 8 2 ∷ use_of 9 3 ∷ [] } ∷ []
unfolding listings_of listed join_n map_n runs_from ends_run kept all_below
second_is_short = refl

-- so does an empty run; a run that names no listed point is skipped
empty_and_bad : listings_of 3 (minus_one ∷ 0 ∷ 1 ∷ 3 ∷ minus_one ∷ 2 ∷ 1 ∷ 0 ∷ minus_one ∷ [])
    ≡ record { number = 2; uses = use_of 5 2 ∷ use_of 6 1 ∷ use_of 7 0 ∷ [] } ∷ []
unfolding listings_of listed join_n map_n runs_from ends_run kept all_below
empty_and_bad = refl

-- a value below -1 ends no run: the run that names it is skipped whole, and the next counts on
below_minus_one : listings_of 3 (0 ∷ 1 ∷ 2 ∷ 0xffff_fff9 ∷ 0 ∷ 1 ∷ 2 ∷ minus_one ∷ 2 ∷ 1 ∷ 0 ∷ [])
    ≡ record { number = 1; uses = use_of 8 2 ∷ use_of 9 1 ∷ use_of 10 0 ∷ [] } ∷ []
unfolding listings_of listed join_n map_n runs_from ends_run kept all_below
below_minus_one = refl
