-- FORMAT 18: how often triangles go from one point to another, and how often outlines do.
use Rattle.std.specs.Prelude.{ℕ, List, [], ◌∷◌, eqb, get_or}
use Rattle.lists.specs.Loops.{pick}
use Rattle.lists.specs.Lists.{total}
use Rattle.polygon.specs.Ears.{Tri, triple}
use Rattle.polygon.specs.Edges.{edge, named, tris, around}
use Rattle.mesh.specs.Mesh.{Slices}
use Rattle.closed.specs.Outlines.{Outline}

-- FORMAT 10.3, 12.1: the indices in threes
unfoldable pub triangles_of : List ℕ → List Tri
triangles_of [] = []
triangles_of (a ∷ []) = []
triangles_of (a ∷ b ∷ []) = []
triangles_of (a ∷ b ∷ c ∷ r) = triple a b c ∷ triangles_of r

-- FORMAT 18: the triangles' edges from p to q; a corner is named by the source of its vertex.
-- Every index names a vertex, so the 0 is never read
unfoldable pub edges_in : Slices → ℕ → ℕ → ℕ
edges_in S p q = tris (named (λ v. get_or S.sources v 0) (edge p q)) (triangles_of S.indices)

-- FORMAT 18: the outlines' steps from p to q: each corner to the next, and the last to the first
unfoldable pub steps_in : List Outline → ℕ → ℕ → ℕ
steps_in os p q = total (around (edge p q)) os

-- FORMAT 18: 1 where the steps from p to q are not as many as those back
unfoldable pub gap : List Outline → ℕ → ℕ → ℕ
gap os p q = pick (eqb (steps_in os p q) (steps_in os q p)) 0 1

-- FORMAT 18: how many steps go such a way, each as often as it is made; a hall without gaps has none
unfoldable pub gaps : List Outline → ℕ
gaps os = total (around (gap os)) os
