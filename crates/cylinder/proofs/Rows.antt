-- FORMAT 17.8, worked out: cylinders of 3 slices with radius 2 and height 4, with and without a side and caps.
use mathlib.Core.Path.{◌≡◌, refl}
use mathlib.Core.Bool.{Bool, true, false}
use mathlib.Core.List.{List, [], ◌∷◌, ◌++◌}
use Prim.Native.Nat.{ℕ, zero, suc, ◌+◌, ◌<◌}
use native.Mathlib.Omega.{arith}
use lib.ListN.{length}
use lib.Ieee.{Float, binary32, of_bits, to_bits, of_int, add, sub, mul, div, lt}
use Rattle.bits.specs.declared.Words2.{Words2}
use Rattle.bits.specs.declared.Words3.{Words3}
use Rattle.std.specs.Prelude.{None}
use Rattle.lists.specs.Lists.{flat}
use Rattle.lists.specs.Loops.{tab}
use Rattle.math.specs.Vector.{zero_f, one_f, two_f}
use Rattle.parts.specs.declared.sizes.PartSizes.{PartSizes}
use Rattle.parts.specs.Ring.{sine_at, cosine_at, ring_at, share_of}
use Rattle.parts.specs.Sizes.{dim_of, held_to}
use Rattle.parts.specs.Part.{Part, followed, positions_of, normals_of, uv_of, textures_of}
use Rattle.parts.specs.Edges.{Closed}
use Rattle.parts.specs.Cap.{cap_normal, cap_texture, cap_centre, cap_vert, cap_verts, cap_tri, cap_indices, cap_part, cap_at}
use Rattle.cylinder.proofs.Closed.{Repeats, cylinder_closed}
use Rattle.cylinder.specs.Cylinder.{side_vert, side_verts, side_tris, side_part, side_at, cylinder_part, cylinder_of}

abbrev minus_f : Float
minus_f = of_bits binary32 0xbf80_0000

abbrev four_f : Float
four_f = of_bits binary32 0x4080_0000

-- sines and cosines: at the start, a quarter and a half round
abbrev turn : List Float
turn = zero_f ∷ one_f ∷ one_f ∷ zero_f ∷ zero_f ∷ minus_f ∷ []

-- the side comes back to the start
abbrev pairs : List Float
pairs = turn ++ (zero_f ∷ one_f ∷ turn ++ turn)

abbrev made : Bool → Bool → Bool → Part
made side top bottom = cylinder_of two_f four_f side top bottom 3 pairs

-- ---- how large

abbrev sizes : Part → PartSizes
sizes p = record { vertices = length p.verts; indices = length p.indices; pairs = p.pairs }

abbrev by : ℕ → ℕ → ℕ → PartSizes
by v i p = record { vertices = v; indices = i; pairs = p }

all_there : sizes (made true true true) ≡ by 16 36 10
unfolding cylinder_of cylinder_part followed side_at side_part side_verts side_tris cap_at cap_part cap_verts cap_indices cap_tri held_to flat tab
all_there = refl

no_bottom : sizes (made true true false) ≡ by 12 27 7
unfolding cylinder_of cylinder_part followed side_at side_part side_verts side_tris cap_at cap_part cap_verts cap_indices cap_tri held_to flat tab
no_bottom = refl

no_top : sizes (made true false true) ≡ by 12 27 7
unfolding cylinder_of cylinder_part followed side_at side_part side_verts side_tris cap_at cap_part cap_verts cap_indices cap_tri held_to flat tab
no_top = refl

side_only : sizes (made true false false) ≡ by 8 18 4
unfolding cylinder_of cylinder_part followed side_at side_part side_verts side_tris cap_at cap_part cap_verts cap_indices cap_tri held_to flat tab
side_only = refl

no_side : sizes (made false true true) ≡ by 8 18 6
unfolding cylinder_of cylinder_part followed side_at side_part side_verts side_tris cap_at cap_part cap_verts cap_indices cap_tri held_to flat tab
no_side = refl

top_only : sizes (made false true false) ≡ by 4 9 3
unfolding cylinder_of cylinder_part followed side_at side_part side_verts side_tris cap_at cap_part cap_verts cap_indices cap_tri held_to flat tab
top_only = refl

bottom_only : sizes (made false false true) ≡ by 4 9 3
unfolding cylinder_of cylinder_part followed side_at side_part side_verts side_tris cap_at cap_part cap_verts cap_indices cap_tri held_to flat tab
bottom_only = refl

none_there : sizes (made false false false) ≡ by 0 0 0
unfolding cylinder_of cylinder_part followed side_at side_part side_verts side_tris cap_at cap_part cap_verts cap_indices cap_tri held_to flat tab
none_there = refl

-- ---- the indices

abbrev side : List ℕ
side = 0 ∷ 2 ∷ 3 ∷ 0 ∷ 3 ∷ 1 ∷ 2 ∷ 4 ∷ 5 ∷ 2 ∷ 5 ∷ 3 ∷ 4 ∷ 6 ∷ 7 ∷ 4 ∷ 7 ∷ 5 ∷ []

indices : (made true true true).indices ≡ side ++ (8 ∷ 9 ∷ 10 ∷ 8 ∷ 10 ∷ 11 ∷ 8 ∷ 11 ∷ 9 ∷ 12 ∷ 14 ∷ 13 ∷ 12 ∷ 15 ∷ 14 ∷ 12 ∷ 13 ∷ 15 ∷ [])
unfolding cylinder_of cylinder_part followed side_at side_part side_verts side_tris cap_at cap_part cap_verts cap_indices cap_tri held_to flat tab
indices = refl

-- the bottom takes the numbers that the top would have
indices_no_top : (made true false true).indices ≡ side ++ (8 ∷ 10 ∷ 9 ∷ 8 ∷ 11 ∷ 10 ∷ 8 ∷ 9 ∷ 11 ∷ [])
unfolding cylinder_of cylinder_part followed side_at side_part side_verts side_tris cap_at cap_part cap_verts cap_indices cap_tri held_to flat tab
indices_no_top = refl

indices_no_side : (made false true true).indices ≡ 0 ∷ 1 ∷ 2 ∷ 0 ∷ 2 ∷ 3 ∷ 0 ∷ 3 ∷ 1 ∷ 4 ∷ 6 ∷ 5 ∷ 4 ∷ 7 ∷ 6 ∷ 4 ∷ 5 ∷ 7 ∷ []
unfolding cylinder_of cylinder_part followed side_at side_part side_verts side_tris cap_at cap_part cap_verts cap_indices cap_tri held_to flat tab
indices_no_side = refl

indices_no_bottom : (made true true false).indices ≡ side ++ (8 ∷ 9 ∷ 10 ∷ 8 ∷ 10 ∷ 11 ∷ 8 ∷ 11 ∷ 9 ∷ [])
unfolding cylinder_of cylinder_part followed side_at side_part side_verts side_tris cap_at cap_part cap_verts cap_indices cap_tri held_to flat tab
indices_no_bottom = refl

indices_side_only : (made true false false).indices ≡ side
unfolding cylinder_of cylinder_part followed side_at side_part side_verts side_tris cap_at cap_part cap_verts cap_indices cap_tri held_to flat tab
indices_side_only = refl

-- a cap alone begins at 0
indices_top_only : (made false true false).indices ≡ 0 ∷ 1 ∷ 2 ∷ 0 ∷ 2 ∷ 3 ∷ 0 ∷ 3 ∷ 1 ∷ []
unfolding cylinder_of cylinder_part followed side_at side_part side_verts side_tris cap_at cap_part cap_verts cap_indices cap_tri held_to flat tab
indices_top_only = refl

indices_bottom_only : (made false false true).indices ≡ 0 ∷ 2 ∷ 1 ∷ 0 ∷ 3 ∷ 2 ∷ 0 ∷ 1 ∷ 3 ∷ []
unfolding cylinder_of cylinder_part followed side_at side_part side_verts side_tris cap_at cap_part cap_verts cap_indices cap_tri held_to flat tab
indices_bottom_only = refl

-- ---- the vertices: the bits of 0, -0, 1, -1, 2 and -2

abbrev o : ℕ
o = 0

abbrev z : ℕ
z = 0x8000_0000

abbrev one : ℕ
one = 0x3f80_0000

abbrev minus : ℕ
minus = 0xbf80_0000

abbrev up : ℕ
up = 0x4000_0000

abbrev down : ℕ
down = 0xc000_0000

abbrev at : ℕ → ℕ → ℕ → Words3
at x y z = record { x = x; y = y; z = z }

positions : positions_of (made true true true).verts
    ≡ (at z down down) ∷ (at z up down) ∷ (at down down z) ∷ (at down up z) ∷ (at z down up) ∷ (at z up up) ∷ (at z down down) ∷ (at z up down) ∷ (at o up o) ∷ (at z up down) ∷ (at down up z) ∷ (at z up up) ∷ (at o down o) ∷ (at z down down) ∷ (at down down z) ∷ (at z down up) ∷ []
unfolding positions_of cylinder_of cylinder_part followed side_at side_part side_verts side_vert cap_at cap_part cap_verts cap_vert cap_centre cap_normal cap_texture dim_of held_to sine_at cosine_at ring_at share_of flat tab of_bits to_bits add sub mul div lt
positions = refl

-- and takes the first pairs
positions_top_only : positions_of (made false true false).verts ≡ (at o up o) ∷ (at z up down) ∷ (at down up z) ∷ (at z up up) ∷ []
unfolding positions_of cylinder_of cylinder_part followed side_at side_part side_verts side_vert cap_at cap_part cap_verts cap_vert cap_centre cap_normal cap_texture dim_of held_to sine_at cosine_at ring_at share_of flat tab of_bits to_bits add sub mul div lt
positions_top_only = refl

positions_bottom_only : positions_of (made false false true).verts ≡ (at o down o) ∷ (at z down down) ∷ (at down down z) ∷ (at z down up) ∷ []
unfolding positions_of cylinder_of cylinder_part followed side_at side_part side_verts side_vert cap_at cap_part cap_verts cap_vert cap_centre cap_normal cap_texture dim_of held_to sine_at cosine_at ring_at share_of flat tab of_bits to_bits add sub mul div lt
positions_bottom_only = refl

normals : normals_of (made true true true).verts
    ≡ (at z o minus) ∷ (at z o minus) ∷ (at minus o z) ∷ (at minus o z) ∷ (at z o one) ∷ (at z o one) ∷ (at z o minus) ∷ (at z o minus) ∷ (at o one o) ∷ (at o one o) ∷ (at o one o) ∷ (at o one o) ∷ (at o minus o) ∷ (at o minus o) ∷ (at o minus o) ∷ (at o minus o) ∷ []
unfolding normals_of cylinder_of cylinder_part followed side_at side_part side_verts side_vert cap_at cap_part cap_verts cap_vert cap_centre cap_normal cap_texture dim_of held_to sine_at cosine_at ring_at share_of flat tab of_bits to_bits add sub mul div lt
normals = refl

normals_top_only : normals_of (made false true false).verts ≡ (at o one o) ∷ (at o one o) ∷ (at o one o) ∷ (at o one o) ∷ []
unfolding normals_of cylinder_of cylinder_part followed side_at side_part side_verts side_vert cap_at cap_part cap_verts cap_vert cap_centre cap_normal cap_texture dim_of held_to sine_at cosine_at ring_at share_of flat tab of_bits to_bits add sub mul div lt
normals_top_only = refl

normals_bottom_only : normals_of (made false false true).verts ≡ (at o minus o) ∷ (at o minus o) ∷ (at o minus o) ∷ (at o minus o) ∷ []
unfolding normals_of cylinder_of cylinder_part followed side_at side_part side_verts side_vert cap_at cap_part cap_verts cap_vert cap_centre cap_normal cap_texture dim_of held_to sine_at cosine_at ring_at share_of flat tab of_bits to_bits add sub mul div lt
normals_bottom_only = refl

-- ---- the texture points, t as 1 - t: 0, 1/3, 2/3 and 1 round the side; the caps are of the circle with radius 1

-- 0.5
abbrev half : ℕ
half = 0x3f00_0000

abbrev uv : ℕ → ℕ → Words2
uv s t = record { s = s; t = t }

-- where there is no transform
textures : textures_of (record { need_uvs = true; transform = None }) (made true true true).verts
    ≡ (uv o one) ∷ (uv o o) ∷ (uv 0x3eaa_aaab one) ∷ (uv 0x3eaa_aaab o) ∷ (uv 0x3f2a_aaab one) ∷ (uv 0x3f2a_aaab o) ∷ (uv one one) ∷ (uv one o) ∷ (uv half half) ∷ (uv half o) ∷ (uv o half) ∷ (uv half one) ∷ (uv half half) ∷ (uv half one) ∷ (uv o half) ∷ (uv half o) ∷ []
unfolding textures_of uv_of cylinder_of cylinder_part followed side_at side_part side_verts side_vert cap_at cap_part cap_verts cap_vert cap_centre cap_texture held_to sine_at cosine_at ring_at share_of flat tab of_bits to_bits of_int add sub div
textures = refl

-- ---- these pairs come round, so that each edge of the whole cylinder has its way back

repeated : (a : ℕ) → ring_at pairs (a + 0) ≡ ring_at pairs 0 → ring_at pairs (a + 1) ≡ ring_at pairs 1 → ring_at pairs (a + 2) ≡ ring_at pairs 2 → (i : ℕ) → i < 3 → ring_at pairs (a + i) ≡ ring_at pairs i
repeated a p q r zero h = p
repeated a p q r (suc zero) h = q
repeated a p q r (suc (suc zero)) h = r
repeated a p q r (suc (suc (suc i))) h = absurd (omega arith)

repeats : Repeats pairs 3
unfolding ring_at sine_at cosine_at
repeats = record { round = refl; top = repeated 4 refl refl refl; bottom = repeated 7 refl refl refl }

closed : Closed (made true true true).verts (made true true true).indices
unfolding held_to
closed = cylinder_closed two_f four_f 3 pairs repeats
