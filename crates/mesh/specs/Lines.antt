-- FORMAT 8.2, indexed_line_set: the mesh of a line set's block. ISO/IEC 14772-1, 6.24.
use Rattle.std.specs.Prelude.{ℕ, true, cond, List, [], ◌∷◌, ◌++◌, map, ltb, Option, None, Some}
use Rattle.bits.specs.Bits.{entries}
use Rattle.bits.specs.declared.Words4.{Words4}
use Rattle.block.specs.Runs.{Run, runs}
use Rattle.lists.specs.Lists.{map_n, join_n, place, firsts}
use Rattle.mesh.specs.Words.{no2, no3, point_words}
use Rattle.mesh.specs.Soup.{Corner, Face, Frame}
use Rattle.mesh.specs.Vertices.{Key, same_key}
use Rattle.mesh.specs.Mesh.{Mesh}
use Rattle.mesh.specs.FaceSet.{Rest, rest_of, coord_in, point_count, colour_of}

module _ {A : Type 0} where
  -- FORMAT 6.3: those that are there
  abbrev pub these : Option A → List A
  these None = []
  these (Some a) = a ∷ []

  unfoldable pub somes : List (Option A) → List A
  somes [] = []
  somes (o ∷ os) = these o ++ somes os

  -- FORMAT 6.3: the line from one entry to the next: two ends, or none
  abbrev pub line : Option A → Option A → List A
  line None o = []
  line (Some a) None = []
  line (Some a) (Some b) = a ∷ b ∷ []

  -- FORMAT 6.3, indexed_line_set (prev): the lines along the entries, of which `prev` stands before the first
  unfoldable pub joined : Option A → List (Option A) → List A
  joined prev [] = []
  joined prev (o ∷ os) = line prev o ++ joined o os

-- FORMAT 6.3, indexed_line_set (key): entry e at place k of line `num`: none where it names no listed point
unfoldable pub item_of : Words4 → Rest → List ℕ → ℕ → ℕ → ℕ → Option Key
item_of missing R coord num k e =
    let key : Key = record { point = e; normal = no3; colour = colour_of missing R coord num k; texture = no2 } in
    cond (ltb e (point_count R.head)) (Some key) None

-- FORMAT 6.3: the entries of a run
unfoldable pub items_of : Words4 → Rest → List ℕ → ℕ → Run → List (Option Key)
items_of missing R coord num r = map_n (item_of missing R coord num) r.start r.items

-- FORMAT 6.3: a line's vertices before repeats are dropped, and the ends of its lines in pairs
unfoldable pub line_keys : Words4 → Rest → List ℕ → ℕ → Run → List Key
line_keys missing R coord num r = somes (items_of missing R coord num r)

unfoldable pub line_ends : Words4 → Rest → List ℕ → ℕ → Run → List Key
line_ends missing R coord num r = joined None (items_of missing R coord num r)

-- FORMAT 11, indexed_line_set (dedup): in the order of first meeting; line numbers count every run
unfoldable pub line_vertices : Words4 → Rest → List ℕ → List Key
line_vertices missing R coord = firsts same_key [] (join_n (line_keys missing R coord) 0 (runs (entries coord)))

-- FORMAT 6.3, indexed_line_set (indices): in pairs
unfoldable pub line_indices : Words4 → Rest → List ℕ → List Key → List ℕ
line_indices missing R coord vs = map (λ (k : Key). place same_key k vs) (join_n (line_ends missing R coord) 0 (runs (entries coord)))

-- FORMAT 5, 8.2: no normals and no texture are made
unfoldable pub lines_of : Words4 → Rest → List ℕ → Mesh
lines_of missing R coord =
    let vs = line_vertices missing R coord in
    record {
      sources = map (λ (k : Key). k.point) vs;
      positions = map (λ (k : Key). point_words R.points k.point) vs;
      normals = [];
      colours = map (λ (k : Key). k.colour) vs;
      textures = [];
      indices = line_indices missing R coord vs;
    }

-- FORMAT 8.2, indexed_line_set; the indices in twos are the lines
unfoldable pub line_set_mesh : Words4 → List ℕ → Mesh
line_set_mesh missing bs = lines_of missing (rest_of bs) (coord_in bs)

-- ---- as a soup

-- FORMAT 8: a vertex as a corner
abbrev pub corner_for : Key → Corner
corner_for k = record { point = k.point; gather = k.point; given = k.normal; colour = k.colour; texture = k.texture }

-- FORMAT 8: the entries that name a point as the corners of a soup, a line for a face; its normals are supplied, so that none is generated
unfoldable pub line_faces : Words4 → Rest → List ℕ → List Face
line_faces missing R coord = map_n (λ num r. map corner_for (line_keys missing R coord num r)) 0 (runs (entries coord))

unfoldable pub line_frame : Rest → Frame
line_frame R = record { points = R.points; ccw = true; convex = true; supplied = true; crease = R.settings.crease }
