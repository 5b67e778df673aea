-- FORMAT 8.3: a row, computed: the two quads of a grid of 3 by 2 points.
use mathlib.Core.Path.{◌≡◌, refl}
use mathlib.Core.List.{[], ◌∷◌}
use Rattle.lists.specs.Loops.{tab}
use Rattle.mesh.specs.Quads.{quad}
use Rattle.grid.specs.Listings.{use_of, grid_listing, grid_listings}

listings_row : grid_listings 3 2
    ≡ record { number = 0; uses = use_of 0 ∷ use_of 3 ∷ use_of 4 ∷ use_of 1 ∷ [] } ∷ record { number = 1; uses = use_of 1 ∷ use_of 4 ∷ use_of 5 ∷ use_of 2 ∷ [] } ∷ []
unfolding grid_listings grid_listing tab quad
listings_row = refl
