-- FORMAT 5, 10.3, 11, 12: the soup that the tables hold, with the keys of its corners; what is asked of the slices; and what they hold of the mesh.
use Rattle.std.specs.Prelude.{◌≡◌, ◌⊎◌, List, [], ℕ, zero, suc, ◌+◌, ◌*◌, ◌-◌, ◌^◌, ◌≤◌, ◌<◌, length, replicate, Float}
use Rattle.std.specs.Float.{binary32}
use Rattle.std.specs.Float.Ieee.{of_bits}
use Rattle.lists.specs.Loops.{tab}
use Rattle.lists.specs.Lists.{join_n}
use Rattle.mesh.specs.Soup.{Face, Frame}
use Rattle.mesh.specs.Vertices.{keys_of}
use Rattle.mesh.specs.Mesh.{Mesh, mesh, Slices, slices_of, over_all}
use Rattle.tables.specs.declared.layout.Plan.{Plan}
use Rattle.tables.specs.Soups.{start_in, Holds}
use Rattle.vertices.specs.declared.places.Widths.{Widths}
use Rattle.vertices.specs.Places.{normal_words, colour_words, texture_words}
use Rattle.corners.specs.Laid.{tables_of, Laid}
use Rattle.corners.specs.Corner.{Lent, key_in}
use Rattle.lent.specs.declared.Counts.{Counts}
use Rattle.build.specs.declared.shared.Shared.{Shared}

-- FORMAT 8, 11: the tables hold the soup of F and fs, and give each of its corners its key
pub record Told (L : Lent) (s : Shared) (t : Plan) (w : List ℕ) (F : Frame) (fs : List Face) : Type 0 where
  pub holds : Holds w t F fs
  pub ccw : F.ccw ≡ s.ccw
  pub convex : F.convex ≡ s.convex
  pub keys : tab (key_in L s.attributes s.widths w (tables_of t)) t.count 0 ≡ join_n (keys_of F fs) 0 fs

-- some soup is told
pub record Soup (L : Lent) (s : Shared) (t : Plan) (w : List ℕ) : Type 0 where
  pub frame : Frame
  pub faces : List Face
  pub told : Told L s t w frame faces

-- FORMAT 5: n words a vertex, or none where the attribute is not made
abbrev pub Wide : ℕ → ℕ → Type 0
Wide n v = (v ≡ 0) ⊎ (v ≡ n)

-- FORMAT 4: the tables stand in the words w, low enough for `CornerTables::of_plan`, with five words a corner from the places on; each kept face has three
-- corners or more; the slices have room for a vertex for each corner and three indices for each triangle, the floats for three a corner
pub record Ready (L : Lent) (s : Shared) (t : Plan) (w : List ℕ) (o : Slices) : Type 0 where
  pub soup : Soup L s t w
  pub laid : Laid (tables_of t) (length w)
  pub low : t.owners ≤ 2 ^ 32
  pub scratch : t.places + t.count * 5 ≤ length w
  pub long : (g : ℕ) → g < t.faces → start_in w t g + 3 ≤ start_in w t (suc g)
  pub normal : s.widths.normal ≡ normal_words
  pub colour : Wide colour_words s.widths.colour
  pub texture : Wide texture_words s.widths.texture
  pub sources : t.count ≤ length o.sources
  pub positions : 3 * t.count ≤ length o.positions
  pub normals : 3 * t.count ≤ length o.normals
  pub colours : s.widths.colour * t.count ≤ length o.colours
  pub textures : s.widths.texture * t.count ≤ length o.textures
  pub indices : 3 * (t.count - 2 * t.faces) ≤ length o.indices
  pub floats : 3 * t.count ≤ length L.floats

-- FORMAT 5: an attribute that is not made has no words
unfoldable pub part : ℕ → List ℕ → List ℕ
part zero l = []
part (suc n) l = l

-- FORMAT 5: of the slices of a mesh, what is made: normals always
unfoldable pub made_by : Widths → Slices → Slices
made_by widths S =
    record {
      sources = S.sources;
      positions = S.positions;
      normals = S.normals;
      colours = part widths.colour S.colours;
      textures = part widths.texture S.textures;
      indices = S.indices;
    }

-- FORMAT 5: the slices o became m, which hold the mesh M
pub record Meshed (widths : Widths) (M : Mesh) (o m : Slices) (r : Counts) : Type 0 where
  pub vertices : r.vertices ≡ length (slices_of M).sources
  pub count : r.indices ≡ length (slices_of M).indices
  pub slices : m ≡ over_all (made_by widths (slices_of M)) o

-- FORMAT 5: the slices hold the mesh of the soup that the tables w told, and the working slices became w' and f', which hold zeros
pub record Built (L : Lent) (s : Shared) (t : Plan) (w : List ℕ) (o m : Slices) (w' : List ℕ) (f' : List Float) (r : Counts) : Type 0 where
  pub made : (F : Frame) (fs : List Face) → Told L s t w F fs → Meshed s.widths (mesh F fs) o m r
  pub work : w' ≡ replicate (length w) 0
  pub floats : f' ≡ replicate (length L.floats) (of_bits binary32 0)
