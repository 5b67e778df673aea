-- FORMAT 12.1, triangulate: which faces are fans whatever their points are. Only of the others does the code look for a plane.
use Rattle.std.specs.Prelude.{Bool, ◌||◌, ℕ, leb, ltb}
use Rattle.polygon.specs.Face.{ear_clip_max}

-- FORMAT 12.1: three corners or fewer, a convex face, or more corners than ears are clipped of
unfoldable pub is_fan : Bool → ℕ → Bool
is_fan convex n = leb n 3 || (convex || ltb ear_clip_max n)
