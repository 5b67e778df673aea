-- FORMAT 5, 10, 11, 12: the mesh of a soup; what it shows at a corner; and the part of its indices that a face made.
use Rattle.std.specs.Prelude.{List, [], ◌++◌, map, ℕ, ◌*◌, length, get_or, take, drop}
use Rattle.bits.specs.declared.Words2.{Words2}
use Rattle.bits.specs.declared.Words3.{Words3}
use Rattle.bits.specs.declared.Words4.{Words4}
use Rattle.lists.specs.Lists.{map_n, total, flat}
use Rattle.mesh.specs.Words.{words2, words3, words4, point_words}
use Rattle.mesh.specs.Soup.{Face, Frame}
use Rattle.mesh.specs.Vertices.{Key, vertices, indices_of, width}
use Rattle.mesh.specs.Mend.{mended}

-- FORMAT 5: one element for each vertex, or none of an attribute that is not made; the indices in threes are the triangles, of a line set in twos the lines
pub record Mesh : Type 0 where
  pub sources : List ℕ
  pub positions : List Words3
  pub normals : List Words3
  pub colours : List Words4
  pub textures : List Words2
  pub indices : List ℕ

-- a mesh of nothing
abbrev pub no_mesh : Mesh
no_mesh = record { sources = []; positions = []; normals = []; colours = []; textures = []; indices = [] }

-- FORMAT 5, PolyMesh::build: what stands at each vertex
unfoldable pub mesh_of : Frame → List Key → List ℕ → Mesh
mesh_of F vs is =
    record {
      sources = map (λ (k : Key). k.point) vs;
      positions = map (λ (k : Key). point_words F.points k.point) vs;
      normals = map_n (mended F vs is) 0 vs;
      colours = map (λ (k : Key). k.colour) vs;
      textures = map (λ (k : Key). k.texture) vs;
      indices = is;
    }

-- FORMAT 5, PolyMesh::build and then fix_zero_normals
unfoldable pub mesh : Frame → List Face → Mesh
mesh F fs = let vs = vertices F fs in mesh_of F vs (indices_of F fs vs)

-- FORMAT 5: the words of the lent slices that are made
pub record Slices : Type 0 where
  pub sources : List ℕ
  pub positions : List ℕ
  pub normals : List ℕ
  pub colours : List ℕ
  pub textures : List ℕ
  pub indices : List ℕ

-- FORMAT 5: what is made stands in front, and then what the slice held
abbrev pub over : List ℕ → List ℕ → List ℕ
over made held = made ++ drop (length made) held

-- FORMAT 5: the same of every slice
abbrev pub over_all : Slices → Slices → Slices
over_all made held =
    record {
      sources = over made.sources held.sources;
      positions = over made.positions held.positions;
      normals = over made.normals held.normals;
      colours = over made.colours held.colours;
      textures = over made.textures held.textures;
      indices = over made.indices held.indices;
    }

-- FORMAT 5: three words a vertex for positions and normals, four for colours, two for texture
unfoldable pub slices_of : Mesh → Slices
slices_of M =
    record {
      sources = M.sources;
      positions = flat (map words3 M.positions);
      normals = flat (map words3 M.normals);
      colours = flat (map words4 M.colours);
      textures = flat (map words2 M.textures);
      indices = M.indices;
    }

-- FORMAT 13: what a triangle's corner shows: what the slices have at its vertex
pub record Shown : Type 0 where
  pub source : ℕ
  pub position : List ℕ
  pub colour : List ℕ
  pub texture : List ℕ

-- FORMAT 13: at vertex v
unfoldable pub shown_at : Slices → ℕ → Shown
shown_at S v =
    record {
      source = get_or S.sources v 0;
      position = take 3 (drop (3 * v) S.positions);
      colour = take 4 (drop (4 * v) S.colours);
      texture = take 2 (drop (2 * v) S.textures);
    }

-- FORMAT 13: the normal at vertex v
unfoldable pub normal_at : Slices → ℕ → List ℕ
normal_at S v = take 3 (drop (3 * v) S.normals)

-- FORMAT 13: the part of the indices that face j made
unfoldable pub part_of : List Face → List ℕ → ℕ → List ℕ
part_of fs is j = take (width (get_or fs j [])) (drop (total width (take j fs)) is)
