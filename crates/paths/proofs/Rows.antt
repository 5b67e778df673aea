-- FORMAT 19, worked out: two triangles, one below the other, and paths through them, along them and past them; each ground of the refusal. Assumes nothing.
use mathlib.Core.Path.{◌≡◌, refl}
use mathlib.Core.List.{List, [], ◌∷◌, ◌++◌}
use Prim.Native.Nat.{ℕ}
use lib.Ieee.{of_bits, add, sub, mul, div, le, lt, eq}
use lib.ListN.{replicate}
use Rattle.lists.specs.Loops.{any, tab, first}
use Rattle.mesh.specs.Words.{point_words}
use Rattle.paths.specs.Intersect.{crossing_of, is_hit, hits}
use Rattle.paths.specs.Paths.{point_in, ray_in, triangle_in, blocks, lowest, answer_of, answers_of, is_refused, paths_number, answers_after}

-- (0, 0), (1, 0), (0, 1) at the height 0 and at the height -1
abbrev pub corners : List ℕ
corners =
    0 ∷ 0 ∷ 0 ∷ 0x3f80_0000 ∷ 0 ∷ 0 ∷ 0 ∷ 0x3f80_0000 ∷ 0
    ∷ 0 ∷ 0 ∷ 0xbf80_0000 ∷ 0x3f80_0000 ∷ 0 ∷ 0xbf80_0000 ∷ 0 ∷ 0x3f80_0000 ∷ 0xbf80_0000 ∷ []

abbrev pub triangles : List ℕ
triangles = 0 ∷ 1 ∷ 2 ∷ 3 ∷ 4 ∷ 5 ∷ []

-- straight up or down at (x, y), from one height to another
abbrev pub upright : ℕ → ℕ → ℕ → ℕ → List ℕ
upright x y from to = x ∷ y ∷ from ∷ x ∷ y ∷ to ∷ []

-- at (0.25, 0.25)
abbrev pub inside : ℕ → ℕ → List ℕ
inside from to = upright 0x3e80_0000 0x3e80_0000 from to

-- down through both, up through both, which meets the second first, and through each alone
through : answers_of corners triangles
    (inside 0x3f80_0000 0xc040_0000 ++ inside 0xc040_0000 0x3f80_0000 ++ inside 0x3f80_0000 0xbf00_0000 ++ inside 0xbf00_0000 0xc040_0000 ++ inside 0xbf00_0000 0x3f80_0000)
    ≡ 1 ∷ 1 ∷ 1 ∷ 2 ∷ 1 ∷ []
unfolding answers_of answer_of lowest blocks hits is_hit crossing_of triangle_in ray_in point_in point_words tab first of_bits add sub mul div le lt eq
through = refl

-- past both at (2, 2), short of the first, and between the two
past : answers_of corners triangles
    (upright 0x4000_0000 0x4000_0000 0x3f80_0000 0xc040_0000 ++ inside 0x3f80_0000 0x3f00_0000 ++ inside 0xbe80_0000 0xbf00_0000)
    ≡ 0 ∷ 0 ∷ 0 ∷ []
unfolding answers_of answer_of lowest blocks hits is_hit crossing_of triangle_in ray_in point_in point_words tab first of_bits add sub mul div le lt eq
past = refl

-- through each edge, through a corner, and with each end on the first
at_the_rim : answers_of corners triangles
    (upright 0x3f00_0000 0x3f00_0000 0x3f80_0000 0xbf00_0000 ++ upright 0x3f00_0000 0 0x3f80_0000 0xbf00_0000 ++ upright 0 0x3f00_0000 0x3f80_0000 0xbf00_0000
    ++ upright 0 0 0x3f80_0000 0xbf00_0000 ++ inside 0x3f80_0000 0 ++ inside 0 0x3f80_0000)
    ≡ 1 ∷ 1 ∷ 1 ∷ 1 ∷ 1 ∷ 1 ∷ []
unfolding answers_of answer_of lowest blocks hits is_hit crossing_of triangle_in ray_in point_in point_words tab first of_bits add sub mul div le lt eq
at_the_rim = refl

-- a zero determinant: in the plane of the first, a path of no length on it; and a triangle that has a vertex twice
no_determinant : answers_of corners triangles (0x3dcc_cccd ∷ 0x3dcc_cccd ∷ 0 ∷ 0x3f00_0000 ∷ 0x3f00_0000 ∷ 0 ∷ [] ++ inside 0 0) ≡ 0 ∷ 0 ∷ []
unfolding answers_of answer_of lowest blocks hits is_hit crossing_of triangle_in ray_in point_in point_words tab first of_bits add sub mul div le lt eq
no_determinant = refl

flat : answers_of corners (0 ∷ 1 ∷ 1 ∷ []) (inside 0x3f80_0000 0xbf80_0000) ≡ 0 ∷ []
unfolding answers_of answer_of lowest blocks hits is_hit crossing_of triangle_in ray_in point_in point_words tab first of_bits add sub mul div le lt eq
flat = refl

-- a NaN in either end, and an infinite end
not_numbers : answers_of corners triangles (inside 0x7fc0_0000 0xbf80_0000 ++ inside 0x3f80_0000 0xffc0_0001 ++ inside 0x3f80_0000 0xff80_0000) ≡ 0 ∷ 0 ∷ 0 ∷ []
unfolding answers_of answer_of lowest blocks hits is_hit crossing_of triangle_in ray_in point_in point_words tab first of_bits add sub mul div le lt eq
not_numbers = refl

-- sides of 2^100: the determinant is infinite and its reciprocal 0. A path that begins in the plane is blocked; one through it is not, since its t is a NaN
too_large : answers_of (0 ∷ 0 ∷ 0 ∷ 0x7180_0000 ∷ 0 ∷ 0 ∷ 0 ∷ 0x7180_0000 ∷ 0 ∷ []) (0 ∷ 1 ∷ 2 ∷ []) (inside 0 0xbf80_0000 ++ inside 0x3f80_0000 0xbf80_0000) ≡ 1 ∷ 0 ∷ []
unfolding answers_of answer_of lowest blocks hits is_hit crossing_of triangle_in ray_in point_in point_words tab first of_bits add sub mul div le lt eq
too_large = refl

-- ---- the answer slice

behind_stays : answers_after corners triangles (inside 0x3f80_0000 0xc040_0000) (7 ∷ 8 ∷ 9 ∷ []) ≡ 1 ∷ 8 ∷ 9 ∷ []
unfolding answers_after is_refused any answers_of answer_of lowest blocks hits is_hit crossing_of triangle_in ray_in point_in point_words tab first of_bits add sub mul div le lt eq
behind_stays = refl

no_paths : answers_after corners triangles [] (7 ∷ 8 ∷ []) ≡ 7 ∷ 8 ∷ []
unfolding answers_after is_refused any answers_of tab
no_paths = refl

no_triangles : answers_after [] [] (inside 0x3f80_0000 0xc040_0000) (7 ∷ 8 ∷ []) ≡ 0 ∷ 8 ∷ []
unfolding answers_after is_refused any answers_of answer_of lowest tab first
no_triangles = refl

refused_stays : answers_after corners (0 ∷ 1 ∷ 6 ∷ []) (inside 0x3f80_0000 0xc040_0000) (7 ∷ 8 ∷ []) ≡ 7 ∷ 8 ∷ []
unfolding answers_after is_refused any
refused_stays = refl

-- ---- the refusal: what is just accepted, and each ground

most_paths : paths_number corners triangles (replicate 384 0) 64 ≡ 0
unfolding paths_number is_refused any
most_paths = refl

nothing_at_all : paths_number [] [] [] 0 ≡ 0
unfolding paths_number is_refused any
nothing_at_all = refl

path_too_many : paths_number corners triangles (replicate 390 0) 65 ≡ 12
unfolding paths_number is_refused any
path_too_many = refl

answer_too_few : paths_number corners triangles (replicate 384 0) 63 ≡ 12
unfolding paths_number is_refused any
answer_too_few = refl

half_a_path : paths_number corners triangles (replicate 9 0) 64 ≡ 12
unfolding paths_number is_refused any
half_a_path = refl

half_a_position : paths_number (corners ++ 0 ∷ []) triangles (replicate 6 0) 1 ≡ 12
unfolding paths_number is_refused any
half_a_position = refl

half_a_triangle : paths_number corners (triangles ++ 0 ∷ []) (replicate 6 0) 1 ≡ 12
unfolding paths_number is_refused any
half_a_triangle = refl

index_beyond : paths_number corners (0 ∷ 1 ∷ 6 ∷ []) (replicate 6 0) 1 ≡ 12
unfolding paths_number is_refused any
index_beyond = refl
