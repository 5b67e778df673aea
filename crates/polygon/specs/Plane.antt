-- FORMAT 12.2: the points of a face seen along the largest axis of its normal.
use Rattle.std.specs.Prelude.{Bool, ◌&&◌, List, [], ◌∷◌, map, ℕ, zero, suc, ◌+◌, ◌%◌, Float}
use Rattle.std.specs.Float.{binary32}
use Rattle.std.specs.Float.Ieee.{lt, le, neg, of_bits}
use Rattle.math.specs.declared.vector.V3.{V3}
use Rattle.math.specs.Vector.{vscale, one_f}
use Rattle.math.specs.Order.{magnitude}
use Rattle.lists.specs.Loops.{pick}
use Rattle.polygon.specs.Ears.{Pt}

-- FORMAT 12.2, p[k]: entry k of a vector
abbrev pub entry : V3 → ℕ → Float
entry v zero = v.x
entry v (suc zero) = v.y
entry v (suc (suc k)) = v.z

-- FORMAT 10.1 and 12.2, PolyMesh::build (face_n) and triangulate (rh): turned over where ccw is off: Newell's sum to the facing normal, and back
unfoldable pub handed : Bool → V3 → V3
handed ccw n = pick ccw n (vscale n (neg one_f))

-- FORMAT 12.2: x is at least y and z; not where one of them is NaN
abbrev pub most : Float → Float → Float → Bool
most x y z = le y x && le z x

-- FORMAT 12.2, triangulate (ax): the axis of the largest magnitude; X wins ties, then Y; NaN everywhere gives Z
unfoldable pub axis_of : V3 → ℕ
axis_of n =
    let x = magnitude n.x in
    let y = magnitude n.y in
    let z = magnitude n.z in
    pick (most x y z) 0 (pick (le z y) 1 2)

-- FORMAT 12.2, triangulate (flip)
unfoldable pub flip_of : V3 → Bool
flip_of n = lt (entry n (axis_of n)) (of_bits binary32 0)

-- FORMAT 12.2, triangulate (pts): a point without its entry at the axis; the two after it in turn, or swapped
unfoldable pub projected : ℕ → Bool → V3 → Pt
projected axis flip p = pick flip (entry p ((axis + 2) % 3), entry p ((axis + 1) % 3)) (entry p ((axis + 1) % 3), entry p ((axis + 2) % 3))

-- FORMAT 12.2, triangulate: the face's points in the plane
unfoldable pub projection : Bool → V3 → List V3 → List Pt
projection ccw n ps = map (projected (axis_of (handed ccw n)) (flip_of (handed ccw n))) ps

-- FORMAT 12.2: the coordinates of points in the plane, as a slice holds them
unfoldable pub flat2 : List Pt → List Float
flat2 [] = []
flat2 (p ∷ ps) = p.0 ∷ p.1 ∷ flat2 ps

-- FORMAT 12.2: the points of a list of coordinates
unfoldable pub pairs : List Float → List Pt
pairs [] = []
pairs (x ∷ []) = []
pairs (x ∷ y ∷ r) = (x, y) ∷ pairs r
