-- FORMAT 11: the vertices of a soup, and its indices: each face's triangles through its corners' vertex numbers.
use Rattle.std.specs.Prelude.{Bool, ◌&&◌, cond, List, [], ◌∷◌, map, ℕ, ◌*◌, ◌-◌, eqb, length, get_or}
use Rattle.bits.specs.declared.Words2.{Words2}
use Rattle.bits.specs.declared.Words3.{Words3}
use Rattle.bits.specs.declared.Words4.{Words4}
use Rattle.polygon.specs.Ears.{Tri}
use Rattle.polygon.specs.Face.{triangles}
use Rattle.lists.specs.Lists.{join_n, place, firsts, same_words}
use Rattle.mesh.specs.Words.{words2, words3, words4, no2, no3, no4}
use Rattle.mesh.specs.Soup.{Corner, Face, Frame}
use Rattle.mesh.specs.Normals.{outline, facing, corner_normal}

-- FORMAT 11, VertexKey
pub record Key : Type 0 where
  pub point : ℕ
  pub normal : Words3
  pub colour : Words4
  pub texture : Words2

-- read beyond the last vertex, which never happens
abbrev pub no_key : Key
no_key = record { point = 0; normal = no3; colour = no4; texture = no2 }

-- FORMAT 11: two corners are one vertex if the point and all words agree
unfoldable pub same_key : Key → Key → Bool
same_key x y =
    eqb x.point y.point
    && (same_words (words3 x.normal) (words3 y.normal)
    && (same_words (words4 x.colour) (words4 y.colour) && same_words (words2 x.texture) (words2 y.texture)))

-- FORMAT 11, PolyMesh::build (key): the key of a corner of face `num`
unfoldable pub key_of : Frame → List Face → ℕ → Face → Corner → Key
key_of F fs num f c = record { point = c.point; normal = corner_normal F fs num f c; colour = c.colour; texture = c.texture }

-- FORMAT 11: the keys of a face's corners
unfoldable pub keys_of : Frame → List Face → ℕ → Face → List Key
keys_of F fs num f = map (key_of F fs num f) f

-- FORMAT 11, PolyMesh::build (dedup): the keys of all corners without repeats, numbered by first meeting
unfoldable pub vertices : Frame → List Face → List Key
vertices F fs = firsts same_key [] (join_n (keys_of F fs) 0 fs)

-- FORMAT 12.1, PolyMesh::build: the corners of triangles; b and c are exchanged where ccw is off
unfoldable pub wound : Bool → List Tri → List ℕ
wound ccw [] = []
wound ccw (t ∷ ts) = t.a ∷ cond ccw t.b t.c ∷ cond ccw t.c t.b ∷ wound ccw ts

-- FORMAT 12.1, triangulate: the corners of a face's triangles, by their place in the face
unfoldable pub locals : Frame → Face → List ℕ
locals F f = wound F.ccw (triangles F.ccw F.convex (outline F f) (facing F f))

-- FORMAT 11, PolyMesh::build (local): a face's triangles, by the vertex numbers of its corners
unfoldable pub face_indices : Frame → List Face → List Key → ℕ → Face → List ℕ
face_indices F fs vs num f = map (λ (i : ℕ). place same_key (get_or (keys_of F fs num f) i no_key) vs) (locals F f)

-- FORMAT 12.1, PolyMesh::build (indices): face by face
unfoldable pub indices_of : Frame → List Face → List Key → List ℕ
indices_of F fs vs = join_n (face_indices F fs vs) 0 fs

-- FORMAT 4: how many indices a face has
unfoldable pub width : Face → ℕ
width f = 3 * (length f - 2)
