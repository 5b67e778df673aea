-- What the laws of a face's triangles speak of: the edges of its triangles, and of its outline. Edges are weighed, so that an edge counts as often as it occurs.
use Rattle.std.specs.Prelude.{◌&&◌, List, [], ◌∷◌, ℕ, ◌+◌, ◌<◌, eqb}
use Rattle.lists.specs.Loops.{pick}
use Rattle.polygon.specs.Ears.{Tri}

-- FORMAT 12.1: the three corners are corners of a face of n
abbrev pub Within : ℕ → Tri → Type 0
Within n t = (t.a < n) × (t.b < n) × (t.c < n)

-- the weight of an edge the other way
abbrev pub back : (ℕ → ℕ → ℕ) → ℕ → ℕ → ℕ
back h a b = h b a

-- 1 for the edge from u to v
abbrev pub edge : ℕ → ℕ → ℕ → ℕ → ℕ
edge u v a b = pick (eqb a u && eqb b v) 1 0

-- the weight of an edge whose corners are named by f; two corners may have one name
abbrev pub named : (ℕ → ℕ) → (ℕ → ℕ → ℕ) → ℕ → ℕ → ℕ
named f h a b = h (f a) (f b)

-- the weight of all edges of triangles
unfoldable pub tris : (ℕ → ℕ → ℕ) → List Tri → ℕ
tris h [] = 0
tris h (t ∷ ts) = h t.a t.b + (h t.b t.c + h t.c t.a) + tris h ts

-- from x through a list to y
unfoldable pub walk : (ℕ → ℕ → ℕ) → ℕ → List ℕ → ℕ → ℕ
walk h x [] y = h x y
walk h x (z ∷ r) y = h x z + walk h z r y

-- around a list
unfoldable pub around : (ℕ → ℕ → ℕ) → List ℕ → ℕ
around h [] = 0
around h (x ∷ l) = walk h x l x
