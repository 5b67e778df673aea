-- Whole meshes, computed: the bench's grid, and a roof of four quads under each rule, with normals supplied and mended.
use mathlib.Core.Path.{◌≡◌, refl}
use mathlib.Core.Bool.{Bool, true, false}
use mathlib.Core.List.{List, [], ◌∷◌}
use Prim.Native.Nat.{ℕ, zero, suc, ◌+◌}
use lib.Ieee.{binary32, of_bits, to_bits, add, sub, mul, div, neg, lt}
use Rattle.bits.specs.declared.Words3.{Words3}
use Rattle.bits.specs.declared.Words4.{Words4}
use Rattle.bits.specs.declared.Words2.{Words2}
use Rattle.block.specs.declared.crease.CreaseRule.{CreaseRule}
use Rattle.block.specs.declared.crease.CreaseRule.TheVariants.{Own, Every, Bound}
use Rattle.math.specs.Vector.{vlen, unit_of}
use Rattle.math.specs.SquareRoot.{root_of}
use Rattle.math.specs.Order.{magnitude}
use Rattle.lists.specs.Loops.{tab}
use Rattle.polygon.specs.Points.{spot, spots}
use Rattle.polygon.specs.Facing.{newell_from, newell}
use Rattle.polygon.specs.Plane.{handed, axis_of, flip_of, projected, projection}
use Rattle.polygon.specs.Ears.{fan_from, fan, outline as numbers}
use Rattle.polygon.specs.Face.{face_tris, triangles}
use Rattle.lists.specs.Lists.{map_n, join_n, has, place, meet, firsts, same_words}
use Rattle.mesh.specs.Words.{no2, no3, no4, point_words}
use Rattle.mesh.specs.Soup.{Corner, Face, Frame}
use Rattle.mesh.specs.Normals.{outline, facing, hits, hits_of, incident, sum_all, is_near, near_by, near_step, sum_near, near_sum, crease_sum, or_else, generated, corner_normal}
use Rattle.mesh.specs.Vertices.{same_key, key_of, keys_of, vertices, wound, locals, face_indices, indices_of}
use Rattle.mesh.specs.Mend.{or_words, renorm, vertex_spot, tri_normal, first_normal, mend_by, mended}
use Rattle.mesh.specs.Mesh.{Mesh, mesh_of, mesh}
use Rattle.mesh.proofs.Sample.{w1, v}

abbrev w2 : ℕ
w2 = 0x4000_0000

-- a corner with this normal supplied, and one with none
abbrev with : ℕ → Words3 → Corner
with p n = record { point = p; gather = p; given = n; colour = no4; texture = no2 }

abbrev at : ℕ → Corner
at p = with p no3

-- k times the same colour, and texture
abbrev plain4 : ℕ → List Words4
plain4 zero = []
plain4 (suc k) = no4 ∷ plain4 k

abbrev plain2 : ℕ → List Words2
plain2 zero = []
plain2 (suc k) = no2 ∷ plain2 k

-- FORMAT 14: the 2 by 2 grid
abbrev square : Frame
square = record { points = 0 ∷ 0 ∷ 0 ∷ w1 ∷ 0 ∷ 0 ∷ 0 ∷ 0 ∷ w1 ∷ w1 ∷ 0 ∷ w1 ∷ []; ccw = true; convex = true; supplied = false; crease = Own }

abbrev grid_mesh : Mesh
grid_mesh = record {
  sources = 0 ∷ 2 ∷ 3 ∷ 1 ∷ [];
  positions = v 0 0 0 ∷ v 0 0 w1 ∷ v w1 0 w1 ∷ v w1 0 0 ∷ [];
  normals = v 0 w1 0 ∷ v 0 w1 0 ∷ v 0 w1 0 ∷ v 0 w1 0 ∷ [];
  colours = plain4 4;
  textures = plain2 4;
  indices = 0 ∷ 1 ∷ 2 ∷ 0 ∷ 2 ∷ 3 ∷ [];
}

-- nine points, three by three, the middle column raised by a half
abbrev half : ℕ
half = 0x3f00_0000

abbrev roof : Bool → Bool → CreaseRule → Frame
roof w g r = record {
  points = 0 ∷ 0 ∷ 0 ∷ w1 ∷ half ∷ 0 ∷ w2 ∷ 0 ∷ 0 ∷ 0 ∷ 0 ∷ w1 ∷ w1 ∷ half ∷ w1 ∷ w2 ∷ 0 ∷ w1 ∷ 0 ∷ 0 ∷ w2 ∷ w1 ∷ half ∷ w2 ∷ w2 ∷ 0 ∷ w2 ∷ [];
  ccw = w;
  convex = true;
  supplied = g;
  crease = r;
}

abbrev quads : List Face
quads = (at 0 ∷ at 3 ∷ at 4 ∷ at 1 ∷ []) ∷ (at 1 ∷ at 4 ∷ at 5 ∷ at 2 ∷ []) ∷ (at 3 ∷ at 6 ∷ at 7 ∷ at 4 ∷ []) ∷ (at 4 ∷ at 7 ∷ at 8 ∷ at 5 ∷ []) ∷ []

-- the two slopes' normals
abbrev lo : ℕ
lo = 0x3ee4_f92e

abbrev hi : ℕ
hi = 0x3f64_f92e

abbrev minus : ℕ → ℕ
minus w = 0x8000_0000 + w

abbrev left : Words3
left = v (minus lo) hi 0

abbrev right : Words3
right = v lo hi 0

abbrev roof_own_mesh : Mesh
roof_own_mesh = record {
  sources = 0 ∷ 3 ∷ 4 ∷ 1 ∷ 1 ∷ 4 ∷ 5 ∷ 2 ∷ 6 ∷ 7 ∷ 7 ∷ 8 ∷ [];
  positions = v 0 0 0 ∷ v 0 0 w1 ∷ v w1 half w1 ∷ v w1 half 0 ∷ v w1 half 0 ∷ v w1 half w1 ∷ v w2 0 w1 ∷ v w2 0 0 ∷ v 0 0 w2 ∷ v w1 half w2 ∷ v w1 half w2 ∷ v w2 0 w2 ∷ [];
  normals = left ∷ left ∷ left ∷ left ∷ right ∷ right ∷ right ∷ right ∷ left ∷ left ∷ right ∷ right ∷ [];
  colours = plain4 12;
  textures = plain2 12;
  indices = 0 ∷ 1 ∷ 2 ∷ 0 ∷ 2 ∷ 3 ∷ 4 ∷ 5 ∷ 6 ∷ 4 ∷ 6 ∷ 7 ∷ 1 ∷ 8 ∷ 9 ∷ 1 ∷ 9 ∷ 2 ∷ 5 ∷ 10 ∷ 11 ∷ 5 ∷ 11 ∷ 6 ∷ [];
}

-- turned over: every face at the point, from +0
abbrev roof_every_mesh : Mesh
roof_every_mesh = record {
  sources = 0 ∷ 3 ∷ 4 ∷ 1 ∷ 5 ∷ 2 ∷ 6 ∷ 7 ∷ 8 ∷ [];
  positions = v 0 0 0 ∷ v 0 0 w1 ∷ v w1 half w1 ∷ v w1 half 0 ∷ v w2 0 w1 ∷ v w2 0 0 ∷ v 0 0 w2 ∷ v w1 half w2 ∷ v w2 0 w2 ∷ [];
  normals = v lo (minus hi) 0 ∷ v lo (minus hi) 0 ∷ v 0 (minus w1) 0 ∷ v 0 (minus w1) 0 ∷ v (minus lo) (minus hi) 0 ∷ v (minus lo) (minus hi) 0 ∷ v lo (minus hi) 0 ∷ v 0 (minus w1) 0 ∷ v (minus lo) (minus hi) 0 ∷ [];
  colours = plain4 9;
  textures = plain2 9;
  indices = 0 ∷ 2 ∷ 1 ∷ 0 ∷ 3 ∷ 2 ∷ 3 ∷ 4 ∷ 2 ∷ 3 ∷ 5 ∷ 4 ∷ 1 ∷ 7 ∷ 6 ∷ 1 ∷ 2 ∷ 7 ∷ 2 ∷ 8 ∷ 7 ∷ 2 ∷ 4 ∷ 8 ∷ [];
}

-- the slopes' cosine, 0.6, is above a half
abbrev roof_near_mesh : Mesh
roof_near_mesh = record {
  sources = 0 ∷ 3 ∷ 4 ∷ 1 ∷ 5 ∷ 2 ∷ 6 ∷ 7 ∷ 8 ∷ [];
  positions = v 0 0 0 ∷ v 0 0 w1 ∷ v w1 half w1 ∷ v w1 half 0 ∷ v w2 0 w1 ∷ v w2 0 0 ∷ v 0 0 w2 ∷ v w1 half w2 ∷ v w2 0 w2 ∷ [];
  normals = left ∷ left ∷ v 0 w1 0 ∷ v 0 w1 0 ∷ right ∷ right ∷ left ∷ v 0 w1 0 ∷ right ∷ [];
  colours = plain4 9;
  textures = plain2 9;
  indices = 0 ∷ 1 ∷ 2 ∷ 0 ∷ 2 ∷ 3 ∷ 3 ∷ 2 ∷ 4 ∷ 3 ∷ 4 ∷ 5 ∷ 1 ∷ 6 ∷ 7 ∷ 1 ∷ 7 ∷ 2 ∷ 2 ∷ 7 ∷ 8 ∷ 2 ∷ 8 ∷ 4 ∷ [];
}

-- supplied normals: of length 0 and 2, NaN; mended by the vertex's first triangle, by scaling, or kept
abbrev given : List Face
given = (with 0 no3 ∷ with 3 (v 0 w2 0) ∷ with 4 no3 ∷ with 1 no3 ∷ []) ∷ (with 1 no3 ∷ with 4 no3 ∷ with 5 (v 0 w1 0) ∷ with 2 (v 0x7fc0_0000 0 0) ∷ []) ∷ []

abbrev roof_given_mesh : Mesh
roof_given_mesh = record {
  sources = 0 ∷ 3 ∷ 4 ∷ 1 ∷ 5 ∷ 2 ∷ [];
  positions = v 0 0 0 ∷ v 0 0 w1 ∷ v w1 half w1 ∷ v w1 half 0 ∷ v w2 0 w1 ∷ v w2 0 0 ∷ [];
  normals = left ∷ v 0 w1 0 ∷ left ∷ left ∷ v 0 w1 0 ∷ right ∷ [];
  colours = plain4 6;
  textures = plain2 6;
  indices = 0 ∷ 1 ∷ 2 ∷ 0 ∷ 2 ∷ 3 ∷ 3 ∷ 2 ∷ 4 ∷ 3 ∷ 4 ∷ 5 ∷ [];
}

pub rows : (mesh square ((at 0 ∷ at 2 ∷ at 3 ∷ at 1 ∷ []) ∷ []) ≡ grid_mesh)
    × (mesh (roof true false Own) quads ≡ roof_own_mesh)
    × (mesh (roof false false Every) quads ≡ roof_every_mesh)
    × (mesh (roof true false (Bound (of_bits binary32 half))) quads ≡ roof_near_mesh)
    × (mesh (roof true true Own) given ≡ roof_given_mesh)
unfolding mesh vertices keys_of key_of corner_normal generated or_else incident hits_of hits facing outline indices_of face_indices locals wound mesh_of mended mend_by or_words renorm first_normal vertex_spot tri_normal point_words join_n map_n firsts meet has place same_key same_words sum_all near_step near_by sum_near near_sum crease_sum is_near spots spot newell newell_from handed triangles face_tris projection projected axis_of flip_of fan fan_from numbers tab unit_of vlen root_of magnitude of_bits to_bits add sub mul div neg lt
rows = (refl, refl, refl, refl, refl)
