-- FORMAT 17.5, worked out: two points with one colour, two and three; a point that is not full; no points.
use mathlib.Core.Path.{◌≡◌, refl}
use mathlib.Core.Bool.{true, false}
use mathlib.Core.List.{List, [], ◌∷◌, ◌++◌}
use Prim.Native.Nat.{ℕ}
use Rattle.bits.specs.declared.Words4.{Words4}
use Rattle.lists.specs.Loops.{tab}
use Rattle.mesh.specs.Words.{point_words}
use Rattle.mesh.specs.Mesh.{Mesh}
use Rattle.pointset.specs.PointSet.{makes_colours, colour_at, point_set_mesh, point_set_result}

-- two points, the second with a -0
abbrev two : List ℕ
two = 0x3f80_0000 ∷ 0x4000_0000 ∷ 0x4040_0000 ∷ 0x8000_0000 ∷ 0x7fc0_0001 ∷ 0 ∷ []

-- their mesh with the colours cs
abbrev shown : List Words4 → Mesh
shown cs =
    record {
      sources = 0 ∷ 1 ∷ [];
      positions = record { x = 0x3f80_0000; y = 0x4000_0000; z = 0x4040_0000 } ∷ record { x = 0x8000_0000; y = 0x7fc0_0001; z = 0 } ∷ [];
      normals = [];
      colours = cs;
      textures = [];
      indices = [];
    }

-- colours of three words and of four
abbrev red : List ℕ
red = 0x3f80_0000 ∷ 0 ∷ 0 ∷ []

abbrev green : List ℕ
green = 0 ∷ 0x3f80_0000 ∷ 0 ∷ []

abbrev blue : List ℕ
blue = 0 ∷ 0 ∷ 0x3f80_0000 ∷ []

abbrev clear : List ℕ → List ℕ
clear c = c ++ 0x3f00_0000 ∷ []

-- red and green, with the alpha a
abbrev painted : ℕ → List Words4
painted a = record { r = 0x3f80_0000; g = 0; b = 0; a = a } ∷ record { r = 0; g = 0x3f80_0000; b = 0; a = a } ∷ []

-- ---- three words a colour

one_short : point_set_mesh two true false red ≡ shown []
unfolding point_set_mesh makes_colours colour_at point_words tab
one_short = refl

enough : point_set_mesh two true false (red ++ green) ≡ shown (painted 0x3f80_0000)
unfolding point_set_mesh makes_colours colour_at point_words tab
enough = refl

one_more : point_set_mesh two true false (red ++ green ++ blue) ≡ shown (painted 0x3f80_0000)
unfolding point_set_mesh makes_colours colour_at point_words tab
one_more = refl

-- a second colour that is not full is none
half_a_colour : point_set_mesh two true false (red ++ 0 ∷ 0 ∷ []) ≡ shown []
unfolding point_set_mesh makes_colours colour_at point_words tab
half_a_colour = refl

-- ---- four

one_short_of_four : point_set_mesh two true true (clear red) ≡ shown []
unfolding point_set_mesh makes_colours colour_at point_words tab
one_short_of_four = refl

enough_of_four : point_set_mesh two true true (clear red ++ clear green) ≡ shown (painted 0x3f00_0000)
unfolding point_set_mesh makes_colours colour_at point_words tab
enough_of_four = refl

one_more_of_four : point_set_mesh two true true (clear red ++ clear green ++ clear blue) ≡ shown (painted 0x3f00_0000)
unfolding point_set_mesh makes_colours colour_at point_words tab
one_more_of_four = refl

-- ---- not present, not full, not there

not_present : point_set_mesh two false false (red ++ green) ≡ shown []
unfolding point_set_mesh makes_colours colour_at point_words tab
not_present = refl

half_a_point : point_set_mesh (two ++ 0x3f80_0000 ∷ 0x3f80_0000 ∷ []) true false (red ++ green) ≡ shown (painted 0x3f80_0000)
unfolding point_set_mesh makes_colours colour_at point_words tab
half_a_point = refl

-- no points and no colours: colours are made, of which there are none
no_points : point_set_result [] true false [] ≡ record { vertices = 0; indices = 0; solid = true; unlit = true; has_colours = true }
unfolding point_set_result makes_colours
no_points = refl

no_mesh_lem : point_set_mesh [] true false [] ≡ record { sources = []; positions = []; normals = []; colours = []; textures = []; indices = [] }
unfolding point_set_mesh makes_colours colour_at point_words tab
no_mesh_lem = refl
