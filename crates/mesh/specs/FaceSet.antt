-- FORMAT 8.1, indexed_face_set: the block of a face set as a soup, and its mesh. ISO/IEC 14772-1, 6.23.
use Rattle.std.specs.Prelude.{ℕ, true, cond, List, [], get_or}
use Rattle.bits.specs.Bits.{entries}
use Rattle.bits.specs.declared.Words2.{Words2}
use Rattle.bits.specs.declared.Words3.{Words3}
use Rattle.bits.specs.declared.Words4.{Words4}
use Rattle.block.specs.declared.header.Header.{Header}
use Rattle.block.specs.declared.settings.Settings.{Settings}
use Rattle.block.specs.Header.{header_of}
use Rattle.block.specs.Extents.{list_bytes}
use Rattle.block.specs.Settings.{settings_of}
use Rattle.block.specs.Runs.{Run, runs, kept}
use Rattle.block.specs.Stream.{number_at}
use Rattle.block.specs.Value.{value2_at, value3_at, value4_at}
use Rattle.block.specs.Texture.{uv_words}
use Rattle.lists.specs.Lists.{map_n}
use Rattle.mesh.specs.Words.{no2, no3, no4}
use Rattle.mesh.specs.Soup.{Corner, Face, Frame}
use Rattle.mesh.specs.Mesh.{Mesh, mesh}
use Rattle.mesh.specs.Texture.{fit_of, default_at}

-- FORMAT 2.4: a block but for its coordIndex: the points' words, and the bytes of the other lists
pub record Rest : Type 0 where
  pub head : Header
  pub settings : Settings
  pub points : List ℕ
  pub colours : List ℕ
  pub colour_index : List ℕ
  pub normals : List ℕ
  pub normal_index : List ℕ
  pub textures : List ℕ
  pub texture_index : List ℕ

-- FORMAT 2.4: read from the block's bytes
unfoldable pub rest_of : List ℕ → Rest
rest_of bs =
    let h = header_of bs in
    record {
      head = h;
      settings = settings_of bs;
      points = entries (list_bytes bs h 0);
      colours = list_bytes bs h 2;
      colour_index = list_bytes bs h 3;
      normals = list_bytes bs h 4;
      normal_index = list_bytes bs h 5;
      textures = list_bytes bs h 6;
      texture_index = list_bytes bs h 7;
    }

-- FORMAT 2.4: the bytes of coordIndex
unfoldable pub coord_in : List ℕ → List ℕ
coord_in bs = list_bytes bs (header_of bs) 1

-- FORMAT 6.1: its runs
unfoldable pub runs_in : List ℕ → List Run
runs_in bs = runs (entries (coord_in bs))

-- FORMAT 2.2: how many points a set lists
abbrev pub point_count : Header → ℕ
point_count h = get_or h.counts 0 0

-- what a corner reads, by its face number and its place in coordIndex (of a grid, by the quad's number and the point's); nothing of an attribute that is not there

-- FORMAT 7.1, 7.2, indexed_face_set and elevation_grid (n_out)
unfoldable pub normal_of : Rest → List ℕ → ℕ → ℕ → Words3
normal_of R coord num k =
    cond R.head.normals (value3_at R.normals (number_at R.normal_index coord R.head.normal_per_vertex k num) no3) no3

-- FORMAT 7.1, 7.2, indexed_face_set and elevation_grid (c_out), indexed_line_set (c): `missing` is the colour of a missing entry
unfoldable pub colour_of : Words4 → Rest → List ℕ → ℕ → ℕ → Words4
colour_of missing R coord num k =
    cond R.head.colors
    (value4_at R.colours R.head.alpha (number_at R.colour_index coord R.head.color_per_vertex k num) missing) no4

-- FORMAT 7.1 to 7.4, indexed_face_set and elevation_grid (t_out): the listed texture point or, where no list is there, the default one; then the transform
-- and 1 - t
unfoldable pub texture_by : Rest → List ℕ → ℕ → ℕ → Words2 → Words2
texture_by R coord num k default =
    let listed = value2_at R.textures (number_at R.texture_index coord true k num) no2 in
    let uv = uv_words R.head.transformed R.settings.transform in
    cond R.head.texture_points (uv listed) (cond R.head.need_uvs (uv default) no2)

-- FORMAT 8.1, 8.3: a corner at point p, read at place k of face `num`, with the default texture of its point
unfoldable pub corner_by : Words4 → Rest → List ℕ → ℕ → ℕ → ℕ → Words2 → Corner
corner_by missing R coord num k p default =
    record {
      point = p;
      gather = p;
      given = normal_of R coord num k;
      colour = colour_of missing R coord num k;
      texture = texture_by R coord num k default;
    }

-- FORMAT 8.1: the corner of face `num` at place k, where coordIndex has the entry e
unfoldable pub corner_of : Words4 → Rest → List ℕ → ℕ → ℕ → ℕ → Corner
corner_of missing R coord num k e = corner_by missing R coord num k e (default_at R.points (fit_of R.points (point_count R.head)) e)

-- FORMAT 6.2: a run that is skipped is a face with no corners
unfoldable pub face_of : Words4 → Rest → List ℕ → ℕ → Run → Face
face_of missing R coord num r = cond (kept (point_count R.head) r.items) (map_n (corner_of missing R coord num) r.start r.items) []

-- FORMAT 6.2, 8.1: every run, by its number
unfoldable pub faces_of : Words4 → Rest → List ℕ → List Face
faces_of missing R coord = map_n (face_of missing R coord) 0 (runs (entries coord))

-- FORMAT 8.1, indexed_face_set (pm)
unfoldable pub frame_of : Rest → Frame
frame_of R =
    record {
      points = R.points;
      ccw = R.head.ccw;
      convex = R.head.convex;
      supplied = R.head.normals;
      crease = R.settings.crease;
    }

-- FORMAT 8.3, 8.5, elevation_grid (pm): convex whatever the bit says
unfoldable pub convex_frame : Rest → Frame
convex_frame R =
    record {
      points = R.points;
      ccw = R.head.ccw;
      convex = true;
      supplied = R.head.normals;
      crease = R.settings.crease;
    }

-- FORMAT 8.1, indexed_face_set
unfoldable pub face_set_mesh : Words4 → List ℕ → Mesh
face_set_mesh missing bs = mesh (frame_of (rest_of bs)) (faces_of missing (rest_of bs) (coord_in bs))
