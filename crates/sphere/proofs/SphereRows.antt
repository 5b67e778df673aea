-- FORMAT 17.7, worked out: all positions, normals, texture points and indices of a sphere of 3 slices and 2 stacks with radius 2, and how many pairs it takes.
use mathlib.Core.Path.{◌≡◌, refl}
use mathlib.Core.Bool.{true}
use mathlib.Core.List.{List, [], ◌∷◌, ◌++◌}
use Prim.Native.Nat.{ℕ}
use lib.Ieee.{Float, binary32, of_bits, to_bits, of_int, add, sub, mul, div, lt}
use Rattle.bits.specs.declared.Words2.{Words2}
use Rattle.bits.specs.declared.Words3.{Words3}
use Rattle.std.specs.Prelude.{None}
use Rattle.lists.specs.Lists.{flat}
use Rattle.lists.specs.Loops.{tab}
use Rattle.math.specs.Vector.{zero_f, one_f, two_f}
use Rattle.parts.specs.Ring.{sine_at, cosine_at, ring_at, share_of}
use Rattle.parts.specs.Sizes.{dim_of, held_to}
use Rattle.parts.specs.Part.{Part, positions_of, normals_of, uv_of, textures_of}
use Rattle.sphere.specs.Sphere.{sphere_vert, sphere_row, sphere_quad, sphere_band, sphere_part, sphere_of}

abbrev minus_f : Float
minus_f = of_bits binary32 0xbf80_0000

-- sines and cosines: at the start, a quarter and a half round, and at the start again
abbrev turn : List Float
turn = zero_f ∷ one_f ∷ one_f ∷ zero_f ∷ zero_f ∷ minus_f ∷ zero_f ∷ one_f ∷ []

-- the lower pole, the equator and the upper pole, each with its turn
abbrev pairs : List Float
pairs = zero_f ∷ one_f ∷ turn ++ (one_f ∷ zero_f ∷ turn ++ (zero_f ∷ minus_f ∷ turn))

abbrev whole : Part
whole = sphere_of two_f 3 2 pairs

indices : whole.indices ≡ 0 ∷ 5 ∷ 4 ∷ 1 ∷ 6 ∷ 5 ∷ 2 ∷ 7 ∷ 6 ∷ 4 ∷ 5 ∷ 9 ∷ 5 ∷ 6 ∷ 10 ∷ 6 ∷ 7 ∷ 11 ∷ []
unfolding sphere_of sphere_part sphere_band sphere_quad held_to flat tab
indices = refl

taken : whole.pairs ≡ 15
unfolding sphere_of sphere_part held_to
taken = refl

-- ---- the bits of 0, -0, 1, -1, 2 and -2

abbrev o : ℕ
o = 0

abbrev z : ℕ
z = 0x8000_0000

abbrev one : ℕ
one = 0x3f80_0000

abbrev minus : ℕ
minus = 0xbf80_0000

abbrev up : ℕ
up = 0x4000_0000

abbrev down : ℕ
down = 0xc000_0000

abbrev at : ℕ → ℕ → ℕ → Words3
at x y z = record { x = x; y = y; z = z }

positions : positions_of whole.verts
    ≡ (at z down z) ∷ (at z down z) ∷ (at z down o) ∷ (at z down z) ∷ (at z z down) ∷ (at down z z) ∷ (at z z up) ∷ (at z z down) ∷ (at z up z) ∷ (at z up z) ∷ (at z up o) ∷ (at z up z) ∷ []
unfolding positions_of sphere_of sphere_part sphere_row sphere_vert dim_of held_to sine_at cosine_at ring_at share_of flat tab of_bits to_bits add sub mul div lt
positions = refl

normals : normals_of whole.verts
    ≡ (at z minus z) ∷ (at z minus z) ∷ (at z minus o) ∷ (at z minus z) ∷ (at z z minus) ∷ (at minus z z) ∷ (at z z one) ∷ (at z z minus) ∷ (at z one z) ∷ (at z one z) ∷ (at z one o) ∷ (at z one z) ∷ []
unfolding normals_of sphere_of sphere_part sphere_row sphere_vert dim_of held_to sine_at cosine_at ring_at share_of flat tab of_bits to_bits add sub mul div lt
normals = refl

-- ---- the texture points, t as 1 - t

-- 0, 1/3, 2/3 and 1 round
abbrev row : ℕ → List Words2
row t = record { s = o; t = t } ∷ record { s = 0x3eaa_aaab; t = t } ∷ record { s = 0x3f2a_aaab; t = t } ∷ record { s = one; t = t } ∷ []

-- where there is no transform
textures : textures_of (record { need_uvs = true; transform = None }) whole.verts ≡ row one ++ (row 0x3f00_0000 ++ row o)
unfolding textures_of uv_of sphere_of sphere_part sphere_row sphere_vert held_to share_of flat tab of_bits to_bits of_int sub div
textures = refl
