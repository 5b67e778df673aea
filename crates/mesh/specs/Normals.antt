-- FORMAT 10.1, 10.2: the normal of a face and of a corner, before mending. ISO/IEC 14772-1, 4.6.3.4 and 4.6.3.5.
use Rattle.std.specs.Prelude.{Bool, false, cond, List, [], ◌∷◌, ℕ, eqb, Float}
use Rattle.std.specs.Float.Ieee.{lt}
use Rattle.bits.specs.declared.Words3.{Words3}
use Rattle.math.specs.declared.vector.V3.{V3}
use Rattle.std.specs.Prelude.{Option}
use Rattle.std.specs.Prelude.{Some, None}
use Rattle.math.specs.Vector.{v3, zero_f, y_axis, vadd, vdot, unit_of}
use Rattle.polygon.specs.Points.{spots}
use Rattle.polygon.specs.Facing.{newell}
use Rattle.polygon.specs.Plane.{handed}
use Rattle.block.specs.declared.crease.CreaseRule.{CreaseRule}
use Rattle.block.specs.declared.crease.CreaseRule.TheVariants.{Own, Every, Bound}
use Rattle.lists.specs.Lists.{join_n}
use Rattle.mesh.specs.Words.{bits}
use Rattle.mesh.specs.Soup.{Corner, Face, points_of, Frame}

-- FORMAT 10.1, face_points
unfoldable pub outline : Frame → Face → List V3
outline F f = spots F.points (points_of f)

-- FORMAT 10.1, PolyMesh::build (face_n): Newell's sum, times -1.0 where ccw is off; ISO/IEC 14772-1, 4.6.3.4
unfoldable pub facing : Frame → Face → V3
facing F f = handed F.ccw (newell (outline F f))

-- FORMAT 10.2: a face at a point, by its number, with its facing normal
pub record Hit : Type 0 where
  pub face : ℕ
  pub normal : V3

-- FORMAT 10.2, generate_normals (incident): the hit h once for each corner that is gathered under the number p
unfoldable pub hits : ℕ → Hit → Face → List Hit
hits p h [] = []
hits p h (c ∷ cs) = let rest = hits p h cs in cond (eqb c.gather p) (h ∷ rest) rest

-- FORMAT 10.2: what face `num` adds at p
unfoldable pub hits_of : Frame → ℕ → ℕ → Face → List Hit
hits_of F p num g = hits p (record { face = num; normal = facing F g }) g

-- FORMAT 10.2, generate_normals (incident): the faces at p, in face order
unfoldable pub incident : Frame → List Face → ℕ → List Hit
incident F fs p = join_n (hits_of F p) 0 fs

-- FORMAT 10.2, generate_normals (vertex_sum): s and the normals of all
unfoldable pub sum_all : V3 → List Hit → V3
sum_all s [] = s
sum_all s (h ∷ hs) = sum_all (vadd s h.normal) hs

-- FORMAT 10.2, generate_normals: whether the cosine is above the bound; never for a face without a unit normal
unfoldable pub is_near : Float → V3 → (Option V3) → Bool
is_near b u None = false
is_near b u (Some v) = lt b (vdot u v)

-- FORMAT 10.2, generate_normals: one face more, numbered g, with the unit normal k and the facing normal n; the face numbered `own` is left out
unfoldable pub near_by : Float → ℕ → V3 → ℕ → (Option V3) → V3 → V3 → V3
near_by b own u g k s n = let more = cond (is_near b u k) (vadd s n) s in cond (eqb g own) s more

unfoldable pub near_step : Float → ℕ → V3 → V3 → Hit → V3
near_step b own u s h = near_by b own u h.face (unit_of h.normal) s h.normal

-- FORMAT 10.2, generate_normals: s and the normals of the near faces
unfoldable pub sum_near : Float → ℕ → V3 → V3 → List Hit → V3
sum_near b own u s [] = s
sum_near b own u s (h ∷ hs) = sum_near b own u (near_step b own u s h) hs

-- FORMAT 10.2: a face without a unit normal looks at no other
unfoldable pub near_sum : Float → ℕ → V3 → (Option V3) → List Hit → V3
near_sum b own n None hs = n
near_sum b own n (Some u) hs = sum_near b own u n hs

-- FORMAT 10.2, generate_normals: the sum at a corner of the face numbered `own`, whose facing normal is n; ISO/IEC 14772-1, 4.6.3.5
unfoldable pub crease_sum : CreaseRule → ℕ → V3 → List Hit → V3
crease_sum Own own n hs = n
crease_sum Every own n hs = sum_all (v3 zero_f zero_f zero_f) hs
crease_sum (Bound b) own n hs = near_sum b own n (unit_of n) hs

-- FORMAT 9.3, unwrap_or
unfoldable pub or_else : (Option V3) → V3 → V3
or_else (Some u) other = u
or_else None other = other

-- FORMAT 10.2, generate_normals: the sum scaled; else the face's own unit normal; else (0, 1, 0)
unfoldable pub generated : Frame → List Face → ℕ → Face → ℕ → V3
generated F fs num f p =
    let n = facing F f in
    or_else (unit_of (crease_sum F.crease num n (incident F fs p))) (or_else (unit_of n) y_axis)

-- FORMAT 10.2, PolyMesh::build (corner_normals): the supplied words as they are, or the generated normal's
unfoldable pub corner_normal : Frame → List Face → ℕ → Face → Corner → Words3
corner_normal F fs num f c = cond F.supplied c.given (bits (generated F fs num f c.gather))
