-- FORMAT 12.1, 12.2: the indices of the faces that the tables hold, and the floats in which each is put in the plane.
use Rattle.std.specs.Prelude.{◌≡◌, Bool, List, [], ◌++◌, ℕ, suc, ◌+◌, ◌*◌, ◌-◌, ◌≤◌, ◌<◌, Float, length, get_or, drop}
use Rattle.std.proofs.lemmas.List.Edits.{sets}
use Rattle.math.specs.declared.vector.V3.{V3}
use Rattle.lists.specs.Loops.{pick, tab, run}
use Rattle.polygon.specs.Points.{spots}
use Rattle.polygon.specs.Facing.{newell}
use Rattle.polygon.specs.Plane.{handed, projection, flat2}
use Rattle.polygon.specs.Ears.{Tri}
use Rattle.polygon.specs.Face.{triangles}
use Rattle.polygon.specs.Fans.{is_fan}
use Rattle.lists.specs.Lists.{place, flat}
use Rattle.mesh.specs.Soup.{no_corner, Face, Frame}
use Rattle.mesh.specs.Vertices.{Key, same_key, key_of}
use Rattle.tables.specs.declared.layout.Plan.{Plan}
use Rattle.lists.specs.Parts.{seg, spliced, Kept}
use Rattle.tables.specs.Soups.{start_in, named_in, points_in, Sound}
use Rattle.faces.specs.Naming.{numbered}

-- FORMAT 10.1, face_points, of the n corners from a on
unfoldable pub outline_in : List ℕ → Plan → ℕ → ℕ → List V3
outline_in w t a n = spots (points_in w t) (seg w (t.corners + a) n)

-- FORMAT 10.1, PolyMesh::build (face_n)
unfoldable pub facing_in : List ℕ → Plan → Bool → ℕ → ℕ → V3
facing_in w t ccw a n = handed ccw (newell (outline_in w t a n))

-- FORMAT 12.1, triangulate
unfoldable pub triangles_in : List ℕ → Plan → Bool → Bool → ℕ → ℕ → List Tri
triangles_in w t ccw convex a n = triangles ccw convex (outline_in w t a n) (facing_in w t ccw a n)

-- FORMAT 12.1, PolyMesh::build (local): the indices of the n corners from a on
unfoldable pub corners_made : List ℕ → Plan → Bool → Bool → ℕ → ℕ → List ℕ
corners_made w t ccw convex a n = numbered ccw (seg w (t.named + a) n) (triangles_in w t ccw convex a n)

-- FORMAT 12.1: the indices of kept face g
unfoldable pub one_face : List ℕ → Plan → Bool → Bool → ℕ → List ℕ
one_face w t ccw convex g = corners_made w t ccw convex (start_in w t g) (start_in w t (suc g) - start_in w t g)

-- FORMAT 12.1, PolyMesh::build (indices): face by face
unfoldable pub all_faces : List ℕ → Plan → Bool → Bool → List ℕ
all_faces w t ccw convex = flat (tab (one_face w t ccw convex) t.faces 0)

-- FORMAT 12.2, triangulate (pts): the n corners from a on in the plane, two floats a corner
unfoldable pub plane_in : List ℕ → Plan → Bool → ℕ → ℕ → List Float
plane_in w t ccw a n = flat2 (projection ccw (facing_in w t ccw a n) (outline_in w t a n))

-- FORMAT 12.2: the floats f after the n corners from a on: they stand in front, in the plane, where ears are clipped; of a fan there is no plane
unfoldable pub corners_floats : List ℕ → Plan → Bool → Bool → ℕ → ℕ → List Float → List Float
corners_floats w t ccw convex a n f = pick (is_fan convex n) f (sets f 0 (plane_in w t ccw a n))

-- FORMAT 12.2: after kept face g
unfoldable pub one_floats : List ℕ → Plan → Bool → Bool → ℕ → List Float → List Float
one_floats w t ccw convex g f = corners_floats w t ccw convex (start_in w t g) (start_in w t (suc g) - start_in w t g) f

-- FORMAT 12.2: after all of them, one after another
unfoldable pub all_floats : List ℕ → Plan → Bool → Bool → List Float → List Float
all_floats w t ccw convex f = run (one_floats w t ccw convex) t.faces 0 f

-- the tables hold a soup, with five words a corner from the places on, and two floats a corner
pub record Ready (w : List ℕ) (t : Plan) (floats : ℕ) : Type 0 where
  pub sound : Sound w t
  pub scratch : t.places + t.count * 5 ≤ length w
  pub plane : t.count * 2 ≤ floats

-- the vertex number of each corner is the place of its key (FORMAT 11)
pub record Named (w : List ℕ) (t : Plan) (F : Frame) (fs : List Face) (vs : List Key) : Type 0 where
  pub at : (j i : ℕ) → j < t.faces → i < length (get_or fs j [])
      → named_in w t (start_in w t j + i) ≡ place same_key (key_of F fs j (get_or fs j []) (get_or (get_or fs j []) i no_corner)) vs

-- one face: its indices xs from `at` on, the next place r; the tables below the places are kept; the floats became f
pub record Put (t : Plan) (xs : List ℕ) (f : List Float) (at r : ℕ) (o o' w w' : List ℕ) (f' : List Float) : Type 0 where
  pub next : r ≡ at + length xs
  pub made : o' ≡ spliced o at xs
  pub kept : Kept t.places w w'
  pub floats : f' ≡ f

-- all faces: their indices xs in front, r of them, and what was there beyond; the tables below the places are kept; the floats became f
pub record Made (t : Plan) (xs : List ℕ) (f : List Float) (r : ℕ) (o o' w w' : List ℕ) (f' : List Float) : Type 0 where
  pub count : r ≡ length xs
  pub made : o' ≡ xs ++ drop (length xs) o
  pub kept : Kept t.places w w'
  pub floats : f' ≡ f
