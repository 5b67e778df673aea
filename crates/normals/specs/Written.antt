-- FORMAT 10.2, generate_normals: a corner's normal by the tables, and what is written: the generated normals of the soup, three floats a corner.
use Rattle.std.specs.Prelude.{◌≡◌, Bool, List, [], ◌∷◌, ◌++◌, map, ℕ, ◌*◌, ◌≤◌, Float, length, take, drop}
use Rattle.math.specs.declared.vector.V3.{V3}
use Rattle.math.specs.Vector.{y_axis, unit_of}
use Rattle.block.specs.declared.crease.CreaseRule.{CreaseRule}
use Rattle.lists.specs.Lists.{join_n, flat}
use Rattle.lists.specs.Loops.{tab}
use Rattle.mesh.specs.Soup.{Corner, Face, Frame}
use Rattle.mesh.specs.Normals.{crease_sum, or_else, generated}
use Rattle.tables.specs.declared.layout.Plan.{Plan}
use Rattle.lists.specs.Parts.{Kept}
use Rattle.tables.specs.Soups.{gather_in, owner_in, soup_in, frame_in}
use Rattle.normals.specs.Rows.{normal_in, hits_at, Summed}

-- the normal of a corner of face `own` that is gathered under p; the normal of corner c
unfoldable pub normal_at : List ℕ → Plan → CreaseRule → ℕ → ℕ → V3
normal_at w t rule own p =
    let n = normal_in w t own in
    or_else (unit_of (crease_sum rule own n (hits_at w t p))) (or_else (unit_of n) y_axis)

unfoldable pub corner_normal_in : List ℕ → Plan → CreaseRule → ℕ → V3
corner_normal_in w t rule c = normal_at w t rule (owner_in w t c) (gather_in w t c)

-- the sum at corner c by the crease rule
unfoldable pub corner_sum_in : List ℕ → Plan → CreaseRule → ℕ → V3
corner_sum_in w t rule c = crease_sum rule (owner_in w t c) (normal_in w t (owner_in w t c)) (hits_at w t (gather_in w t c))

-- the floats of a vector; of vectors, one after another
abbrev pub three : V3 → List Float
three v = v.x ∷ v.y ∷ v.z ∷ []

unfoldable pub spread : List V3 → List Float
spread vs = flat (map three vs)

-- FORMAT 10.2, generate_normals: the generated normals of a face's corners; of all faces' corners
unfoldable pub face_normals : Frame → List Face → ℕ → Face → List V3
face_normals F fs num f = map (λ (c : Corner). generated F fs num f c.gather) f

unfoldable pub normals_of : Frame → List Face → List V3
normals_of F fs = join_n (face_normals F fs) 0 fs

-- w are the words before, w' and e the words and floats after: the tables below the owners are as they were, and in front of the floats are the generated
-- normals of the soup that the tables hold
pub record Generated (w w' : List ℕ) (t : Plan) (ccw : Bool) (rule : CreaseRule) (e : List Float) : Type 0 where
  pub kept : Kept t.owners w w'
  pub normals : take (3 * t.count) e ≡ spread (normals_of (frame_in w t ccw rule) (soup_in w t))

-- d are the floats before and e those after: the normals of the first n corners stand in front, and what the rule asks for is as it was
pub record Begun (d e : List Float) (w : List ℕ) (t : Plan) (rule : CreaseRule) (n : ℕ) : Type 0 where
  pub within : n ≤ t.count
  pub is : e ≡ spread (tab (corner_normal_in w t rule) n 0) ++ drop (3 * n) d
  pub size : length e ≡ length d
  pub summed : Summed w t rule e
