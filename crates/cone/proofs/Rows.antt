-- FORMAT 17.9, worked out: cones of 3 slices with radius 3 and height 4, with and without a side and a bottom.
use mathlib.Core.Path.{◌≡◌, refl}
use mathlib.Core.Bool.{Bool, true, false}
use mathlib.Core.List.{List, [], ◌∷◌, ◌++◌}
use Prim.Native.Nat.{ℕ}
use lib.ListN.{length}
use lib.Ieee.{Float, binary32, of_bits, to_bits, of_int, add, sub, mul, div, neg, lt}
use Rattle.bits.specs.declared.Words2.{Words2}
use Rattle.bits.specs.declared.Words3.{Words3}
use Rattle.std.specs.Prelude.{None}
use Rattle.lists.specs.Lists.{flat}
use Rattle.lists.specs.Loops.{tab}
use Rattle.math.specs.SquareRoot.{root_of}
use Rattle.math.specs.Vector.{zero_f, one_f, unit_of, vlen}
use Rattle.mesh.specs.Normals.{or_else}
use Rattle.parts.specs.declared.sizes.PartSizes.{PartSizes}
use Rattle.parts.specs.Ring.{sine_at, cosine_at, ring_at, share_of}
use Rattle.parts.specs.Sizes.{dim_of, held_to}
use Rattle.parts.specs.Part.{Part, followed, positions_of, normals_of, uv_of, textures_of}
use Rattle.parts.specs.Cap.{cap_texture, cap_centre, cap_vert, cap_verts, cap_tri, cap_indices, cap_part, cap_at}
use Rattle.cone.specs.Cone.{cone_normal, cone_foot, cone_apex, cone_verts, cone_tri, cone_side, cone_side_at, cone_part, cone_of}

abbrev minus_f : Float
minus_f = of_bits binary32 0xbf80_0000

abbrev three_f : Float
three_f = of_bits binary32 0x4040_0000

abbrev four_f : Float
four_f = of_bits binary32 0x4080_0000

-- sines and cosines: at the start, a quarter and a half round
abbrev turn : List Float
turn = zero_f ∷ one_f ∷ one_f ∷ zero_f ∷ zero_f ∷ minus_f ∷ []

-- a slice: two for the positions, and three for the normals, which are others here
abbrev slice : List Float
slice = zero_f ∷ one_f ∷ one_f ∷ zero_f ∷ one_f ∷ zero_f ∷ zero_f ∷ minus_f ∷ zero_f ∷ one_f ∷ []

abbrev pairs : List Float
pairs = slice ++ (slice ++ (slice ++ turn))

abbrev made : Bool → Bool → Part
made side bottom = cone_of three_f four_f side bottom 3 pairs

-- ---- how large

abbrev sizes : Part → PartSizes
sizes p = record { vertices = length p.verts; indices = length p.indices; pairs = p.pairs }

abbrev by : ℕ → ℕ → ℕ → PartSizes
by v i p = record { vertices = v; indices = i; pairs = p }

all_there : sizes (made true true) ≡ by 13 18 18
unfolding cone_of cone_part followed cone_side_at cone_side cone_verts cone_tri cap_at cap_part cap_verts cap_indices cap_tri held_to flat tab
all_there = refl

no_bottom : sizes (made true false) ≡ by 9 9 15
unfolding cone_of cone_part followed cone_side_at cone_side cone_verts cone_tri cap_at cap_part cap_verts cap_indices cap_tri held_to flat tab
no_bottom = refl

no_side : sizes (made false true) ≡ by 4 9 3
unfolding cone_of cone_part followed cone_side_at cone_side cone_verts cone_tri cap_at cap_part cap_verts cap_indices cap_tri held_to flat tab
no_side = refl

none_there : sizes (made false false) ≡ by 0 0 0
unfolding cone_of cone_part followed cone_side_at cone_side cone_verts cone_tri cap_at cap_part cap_verts cap_indices cap_tri held_to flat tab
none_there = refl

-- ---- the indices

indices : (made true true).indices ≡ 0 ∷ 1 ∷ 2 ∷ 3 ∷ 4 ∷ 5 ∷ 6 ∷ 7 ∷ 8 ∷ 9 ∷ 11 ∷ 10 ∷ 9 ∷ 12 ∷ 11 ∷ 9 ∷ 10 ∷ 12 ∷ []
unfolding cone_of cone_part followed cone_side_at cone_side cone_verts cone_tri cap_at cap_part cap_verts cap_indices cap_tri held_to flat tab
indices = refl

indices_no_side : (made false true).indices ≡ 0 ∷ 2 ∷ 1 ∷ 0 ∷ 3 ∷ 2 ∷ 0 ∷ 1 ∷ 3 ∷ []
unfolding cone_of cone_part followed cone_side_at cone_side cone_verts cone_tri cap_at cap_part cap_verts cap_indices cap_tri held_to flat tab
indices_no_side = refl

indices_no_bottom : (made true false).indices ≡ 0 ∷ 1 ∷ 2 ∷ 3 ∷ 4 ∷ 5 ∷ 6 ∷ 7 ∷ 8 ∷ []
unfolding cone_of cone_part followed cone_side_at cone_side cone_verts cone_tri cap_at cap_part cap_verts cap_indices cap_tri held_to flat tab
indices_no_bottom = refl

-- ---- the vertices: the bits of 0, -0, 2, -2, 3 and -3

abbrev o : ℕ
o = 0

abbrev z : ℕ
z = 0x8000_0000

abbrev up : ℕ
up = 0x4000_0000

abbrev down : ℕ
down = 0xc000_0000

abbrev out : ℕ
out = 0x4040_0000

abbrev back : ℕ
back = 0xc040_0000

abbrev at : ℕ → ℕ → ℕ → Words3
at x y z = record { x = x; y = y; z = z }

positions : positions_of (made true true).verts
    ≡ (at z down back) ∷ (at back down z) ∷ (at o up o) ∷ (at z down back) ∷ (at back down z) ∷ (at o up o) ∷ (at z down back) ∷ (at back down z) ∷ (at o up o) ∷ (at o down o) ∷ (at z down back) ∷ (at back down z) ∷ (at z down out) ∷ []
unfolding positions_of cone_of cone_part followed cone_side_at cone_side cone_verts cone_foot cone_apex cap_at cap_part cap_verts cap_vert cap_centre dim_of held_to sine_at cosine_at ring_at flat tab of_bits to_bits add sub mul div neg lt
positions = refl

-- the bottom alone takes the first pairs
positions_no_side : positions_of (made false true).verts ≡ (at o down o) ∷ (at z down back) ∷ (at back down z) ∷ (at back down z) ∷ []
unfolding positions_of cone_of cone_part followed cone_side_at cone_side cone_verts cone_foot cone_apex cap_at cap_part cap_verts cap_vert cap_centre dim_of held_to sine_at cosine_at ring_at flat tab of_bits to_bits add sub mul div neg lt
positions_no_side = refl

-- 0.6, 0.8 and -0.8: a slope of 3, 4 and 5
abbrev rise : ℕ
rise = 0x3f19_999a

abbrev wide : ℕ
wide = 0x3f4c_cccd

abbrev thin : ℕ
thin = 0xbf4c_cccd

normals : normals_of (cone_verts pairs three_f four_f 3 0) ≡ (at thin rise z) ∷ (at z rise wide) ∷ (at z rise thin) ∷ []
unfolding normals_of cone_verts cone_foot cone_apex cone_normal or_else unit_of vlen root_of sine_at cosine_at ring_at of_bits to_bits add sub mul div neg lt
normals = refl

-- ---- the texture points, t as 1 - t: 0, 1/3, 2/3 and 1 round the foot, the apex between; the bottom is of the circle with radius 1

-- 0.5 and 1
abbrev half : ℕ
half = 0x3f00_0000

abbrev one : ℕ
one = 0x3f80_0000

abbrev uv : ℕ → ℕ → Words2
uv s t = record { s = s; t = t }

-- where there is no transform
textures : textures_of (record { need_uvs = true; transform = None }) (made true true).verts
    ≡ (uv o one) ∷ (uv 0x3eaa_aaab one) ∷ (uv 0x3e2a_aaab o) ∷ (uv 0x3eaa_aaab one) ∷ (uv 0x3f2a_aaab one) ∷ (uv half o) ∷ (uv 0x3f2a_aaab one) ∷ (uv one one) ∷ (uv 0x3f55_5556 o) ∷ (uv half half) ∷ (uv half one) ∷ (uv o half) ∷ (uv half o) ∷ []
unfolding textures_of uv_of cone_of cone_part followed cone_side_at cone_side cone_verts cone_foot cone_apex cap_at cap_part cap_verts cap_vert cap_centre cap_texture held_to sine_at cosine_at ring_at share_of flat tab of_bits to_bits of_int add sub div
textures = refl
