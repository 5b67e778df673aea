-- FORMAT 8.3, elevation_grid: the block of a grid as a soup, and its mesh. ISO/IEC 14772-1, 6.17.
use Rattle.std.specs.Prelude.{ℕ, ◌+◌, ◌-◌, ◌*◌, ◌/◌, ◌%◌, List, [], get_or, pos, Float}
use Rattle.std.specs.Float.{binary32}
use Rattle.std.specs.Float.Ieee.{mul, div, of_int, to_bits}
use Rattle.bits.specs.Bits.{entries}
use Rattle.bits.specs.declared.Words2.{Words2}
use Rattle.bits.specs.declared.Words3.{Words3}
use Rattle.bits.specs.declared.Words4.{Words4}
use Rattle.block.specs.declared.header.Header.{Header}
use Rattle.block.specs.declared.settings.Settings.{Settings}
use Rattle.block.specs.Header.{header_of}
use Rattle.block.specs.Extents.{list_bytes}
use Rattle.block.specs.Settings.{settings_of}
use Rattle.lists.specs.Loops.{tab}
use Rattle.lists.specs.Lists.{flat, tabs}
use Rattle.mesh.specs.Words.{words3}
use Rattle.mesh.specs.Soup.{Corner, Face}
use Rattle.mesh.specs.Mesh.{Mesh, mesh}
use Rattle.mesh.specs.FaceSet.{Rest, corner_by, convex_frame}
use Rattle.mesh.specs.Quads.{quad}

-- FORMAT 2.4: the sides, which are counts with no list
abbrev pub x_dimension : Header → ℕ
x_dimension h = get_or h.counts 0 0

abbrev pub z_dimension : Header → ℕ
z_dimension h = get_or h.counts 1 0

-- FORMAT 8.3: a count as an f32
abbrev pub whole : ℕ → Float
whole n = of_int binary32 (pos n)

-- FORMAT 8.3: the word of n steps of a spacing
abbrev pub step_word : Float → ℕ → ℕ
step_word spacing n = to_bits binary32 (mul binary32 spacing (whole n))

-- FORMAT 8.3, elevation_grid (coords): point k; its height is copied
unfoldable pub grid_point : Header → Settings → List ℕ → ℕ → Words3
grid_point h s heights k =
    record {
      x = step_word s.x_spacing (k % x_dimension h);
      y = get_or heights k 0;
      z = step_word s.z_spacing (k / x_dimension h);
    }

-- FORMAT 8.3: row by row, three words a point
unfoldable pub grid_points : Header → Settings → List ℕ → List ℕ
grid_points h s heights = flat (tab (λ k. words3 (grid_point h s heights k)) (x_dimension h * z_dimension h) 0)

-- FORMAT 2.4: the points that the grid makes, its attributes, and no index list
unfoldable pub grid_of : List ℕ → Rest
grid_of bs =
    let h = header_of bs in
    record {
      head = h;
      settings = settings_of bs;
      points = grid_points h (settings_of bs) (entries (list_bytes bs h 3));
      colours = list_bytes bs h 2;
      colour_index = [];
      normals = list_bytes bs h 4;
      normal_index = [];
      textures = list_bytes bs h 6;
      texture_index = [];
    }

-- FORMAT 7.4: the word of i of n - 1 steps
abbrev pub part_word : ℕ → ℕ → ℕ
part_word i n = to_bits binary32 (div binary32 (whole i) (whole (n - 1)))

-- FORMAT 7.4, elevation_grid (st): the default texture of the point (i, j)
unfoldable pub grid_default : Header → ℕ → ℕ → Words2
grid_default h i j = record { s = part_word i (x_dimension h); t = part_word j (z_dimension h) }

-- FORMAT 8.3: the corner of a quad at the point (i, j), whose number serves as its place
unfoldable pub grid_corner : Words4 → Rest → ℕ → ℕ → ℕ → Corner
grid_corner missing G num i j = let p = i + j * x_dimension G.head in corner_by missing G [] num p p (grid_default G.head i j)

-- FORMAT 8.3, elevation_grid (quad): the quad at (i, j), with its number
unfoldable pub grid_face : Words4 → Rest → ℕ → ℕ → Face
grid_face missing G j i = quad (grid_corner missing G (i + j * (x_dimension G.head - 1))) i j

-- FORMAT 8.3, elevation_grid (faces): row by row
unfoldable pub grid_faces : Words4 → Rest → List Face
grid_faces missing G = tabs (grid_face missing G) (z_dimension G.head - 1) (x_dimension G.head - 1)

-- FORMAT 8.3, elevation_grid: a grid is always convex
unfoldable pub grid_mesh : Words4 → List ℕ → Mesh
grid_mesh missing bs = mesh (convex_frame (grid_of bs)) (grid_faces missing (grid_of bs))
