-- FORMAT 8.4: the faces of small extrusions, computed.
use mathlib.Core.Path.{◌≡◌, refl}
use mathlib.Core.Bool.{true}
use mathlib.Core.List.{[], ◌∷◌}
use Rattle.lists.specs.Loops.{tab}
use Rattle.lists.specs.Lists.{flat, tabs}
use Rattle.mesh.specs.Quads.{quad}
use Rattle.extrusion.specs.Listings.{begin_points, end_points, face_points}

-- two spine points and an open cross-section of three: two sides and two caps
both_caps : face_points 2 3 3 true true ≡ (0 ∷ 1 ∷ 4 ∷ 3 ∷ []) ∷ (1 ∷ 2 ∷ 5 ∷ 4 ∷ []) ∷ (2 ∷ 1 ∷ 0 ∷ []) ∷ (3 ∷ 4 ∷ 5 ∷ []) ∷ []
unfolding face_points begin_points end_points tabs quad tab flat
both_caps = refl

-- a cap of two corners is none
no_cap : face_points 3 2 2 true true ≡ (0 ∷ 1 ∷ 3 ∷ 2 ∷ []) ∷ (2 ∷ 3 ∷ 5 ∷ 4 ∷ []) ∷ []
unfolding face_points begin_points end_points tabs quad tab flat
no_cap = refl
