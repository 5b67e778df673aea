-- FORMAT 10.1: the facing normal of a face by Newell's method, each operation f32 and in the source's order.
use Rattle.std.specs.Prelude.{List, [], ◌∷◌}
use Rattle.std.specs.Float.{binary32}
use Rattle.std.specs.Float.Ieee.{add, sub, mul}
use Rattle.math.specs.declared.vector.V3.{V3}
use Rattle.math.specs.Vector.{v3, zero_f}

-- FORMAT 10.1, newell: n and the products of the edge from a to b
abbrev pub edge_sum : V3 → V3 → V3 → V3
edge_sum n a b =
    v3 (add binary32 n.x (mul binary32 (sub binary32 a.y b.y) (add binary32 a.z b.z)))
    (add binary32 n.y (mul binary32 (sub binary32 a.z b.z) (add binary32 a.x b.x)))
    (add binary32 n.z (mul binary32 (sub binary32 a.x b.x) (add binary32 a.y b.y)))

-- FORMAT 10.1, newell: the edges of what is left, and the edge back to the first point at the end
unfoldable pub newell_from : V3 → V3 → List V3 → V3
newell_from first n [] = n
newell_from first n (a ∷ []) = edge_sum n a first
newell_from first n (a ∷ b ∷ r) = newell_from first (edge_sum n a b) (b ∷ r)

-- +0 in each entry
abbrev pub nought : V3
nought = v3 zero_f zero_f zero_f

-- FORMAT 10.1, newell
unfoldable pub newell : List V3 → V3
newell [] = nought
newell (a ∷ r) = newell_from a nought (a ∷ r)
