-- The directed edges of a part's triangles, by the places of their ends. For laws of the parts.
use Rattle.std.specs.Prelude.{◌≡◌, List, [], ◌∷◌, ℕ, ◌+◌, get_or}
use Rattle.math.specs.declared.vector.V3.{V3}
use Rattle.parts.specs.declared.vert.Vert.{Vert}

-- what f says of each edge, added up; three indices are a triangle
unfoldable pub edge_sum : (ℕ → ℕ → ℕ) → List ℕ → ℕ
edge_sum f (a ∷ b ∷ c ∷ r) = f a b + f b c + f c a + edge_sum f r
edge_sum f (a ∷ b ∷ []) = 0
edge_sum f (a ∷ []) = 0
edge_sum f [] = 0

-- where vertex i stands; where there is none, where d does
abbrev pub place_in : List Vert → Vert → ℕ → V3
place_in vs d i = (get_or vs i d).position

-- each edge has its way back, as often: what g counts of the edges, it counts of their ways back
abbrev pub Closed : List Vert → List ℕ → Type 0
Closed vs l =
    (d : Vert) (g : V3 → V3 → ℕ)
    → edge_sum (λ i j. g (place_in vs d i) (place_in vs d j)) l ≡ edge_sum (λ i j. g (place_in vs d j) (place_in vs d i)) l
