-- Worked examples, by computation.
use mathlib.Core.Path.{◌≡◌, refl}
use mathlib.Core.List.{[], ◌∷◌}
use mathlib.Core.Bool.{true, false}
use lib.IntN.{pos}
use lib.Ieee.{Float, nan, fin, add, sub, mul, lt, le, neg, of_bits}
use Rattle.math.specs.Vector.{v3}
use Rattle.math.specs.Order.{magnitude}
use Rattle.lists.specs.Loops.{any, tab, run, first}
use Rattle.polygon.specs.Facing.{newell_from, newell}
use Rattle.lists.specs.Lists.{remove}
use Rattle.polygon.specs.Ears.{triple, ear_clip, ear_clip_by, cross2, point_in_tri, blocks, is_ear, first_ear, fan_from, fan, goes, clip, area_term, area, is_reversed, place, order, turn, outline}
use Rattle.polygon.specs.Plane.{axis_of, flip_of, handed, projected, projection}
use Rattle.polygon.specs.Face.{face_tris, triangles}

abbrev o : Float
o = fin false 0 (pos 0)

abbrev l : Float
l = fin false 1 (pos 0)

-- Newell of a triangle; ears counter-clockwise, clockwise, of four equal points and of four NaN points
pub rows :
    (newell (v3 o o o ∷ v3 l o o ∷ v3 l l o ∷ []) ≡ v3 o o l)
    × (ear_clip ((o, o) ∷ (l, o) ∷ (l, l) ∷ (o, l) ∷ []) ≡ triple 3 0 1 ∷ triple 1 2 3 ∷ [])
    × (ear_clip ((o, o) ∷ (o, l) ∷ (l, l) ∷ (l, o) ∷ []) ≡ triple 0 2 3 ∷ triple 2 0 1 ∷ [])
    × (ear_clip ((o, o) ∷ (o, o) ∷ (o, o) ∷ (o, o) ∷ []) ≡ triple 0 1 2 ∷ triple 0 2 3 ∷ [])
    × (ear_clip ((nan, nan) ∷ (nan, nan) ∷ (nan, nan) ∷ (nan, nan) ∷ []) ≡ triple 3 0 1 ∷ triple 1 2 3 ∷ [])
unfolding newell newell_from ear_clip ear_clip_by cross2 point_in_tri blocks is_ear first_ear remove fan_from fan goes clip area_term area is_reversed place order turn any tab run first add sub mul lt le of_bits
rows = (refl, refl, refl, refl, refl)

-- the axis: X wins ties, then Y; a zero normal is X; NaN everywhere is Z
pub axes :
    (axis_of (v3 l l l) ≡ 0) × (axis_of (v3 o l l) ≡ 1) × (axis_of (v3 o o l) ≡ 2) × (axis_of (v3 o o o) ≡ 0) × (axis_of (v3 nan nan nan) ≡ 2)
unfolding axis_of le magnitude
axes = (refl, refl, refl, refl, refl)

-- a square in the plane z = 0 whose normal faces up: as it is, turned over where ccw is off, and convex
pub faces :
    (triangles true false (v3 o o o ∷ v3 l o o ∷ v3 l l o ∷ v3 o l o ∷ []) (v3 o o l) ≡ triple 3 0 1 ∷ triple 1 2 3 ∷ [])
    × (triangles false false (v3 o o o ∷ v3 l o o ∷ v3 l l o ∷ v3 o l o ∷ []) (v3 o o (neg l)) ≡ triple 3 0 1 ∷ triple 1 2 3 ∷ [])
    × (triangles true true (v3 o o o ∷ v3 l o o ∷ v3 l l o ∷ v3 o l o ∷ []) (v3 o o l) ≡ triple 0 1 2 ∷ triple 0 2 3 ∷ [])
unfolding triangles face_tris outline projection projected handed axis_of flip_of ear_clip ear_clip_by cross2 point_in_tri blocks is_ear first_ear remove fan_from fan goes clip area_term area is_reversed place order turn any tab run first add sub mul lt le neg of_bits magnitude
faces = (refl, refl, refl)
