-- FORMAT 12.1: the triangles of one face, as triples of its own corners.
use Rattle.std.specs.Prelude.{Bool, ◌||◌, List, [], ◌∷◌, ℕ, eqb, ltb, length}
use Rattle.math.specs.declared.vector.V3.{V3}
use Rattle.lists.specs.Loops.{pick}
use Rattle.polygon.specs.Ears.{Pt, Tri, triple, outline, fan, ear_clip}
use Rattle.polygon.specs.Plane.{projection}

-- FORMAT 12.1, EAR_CLIP_MAX: a face of more corners is a fan
abbrev pub ear_clip_max : ℕ
ear_clip_max = 4096

-- FORMAT 12.1, triangulate, of points in the plane: none below three corners, one of three, a fan or ears of more
unfoldable pub face_tris : Bool → List Pt → List Tri
face_tris convex pts =
    let n = length pts in
    let ears = ear_clip pts in
    let many = pick (convex || ltb ear_clip_max n) (fan (outline n)) ears in
    pick (ltb n 3) [] (pick (eqb n 3) (triple 0 1 2 ∷ []) many)

-- FORMAT 12.1, triangulate: the triangles of a face of these points with this facing normal
unfoldable pub triangles : Bool → Bool → List V3 → V3 → List Tri
triangles ccw convex points normal = face_tris convex (projection ccw normal points)
