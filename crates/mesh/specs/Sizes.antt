-- FORMAT 4: P, C and N of each kind, from the header and the bytes; and the refusals 6 and 7. FORMAT 3.
use Rattle.std.specs.Prelude.{ℕ, suc, ◌+◌, ◌-◌, ◌*◌, Bool, false, ◌||◌, cond, List, [], ◌∷◌, ltb, get_or}
use Rattle.std.specs.Int.{from_bool}
use Rattle.bits.specs.Bits.{entries}
use Rattle.block.specs.declared.header.Header.{Header}
use Rattle.block.specs.declared.topology.Topology.{Topology}
use Rattle.block.specs.declared.refusal.Refusal.TheVariants.{NoShape, Corners}
use Rattle.block.specs.Edition.{limit_of}
use Rattle.block.specs.Kind.{by_kind}
use Rattle.block.specs.Refusal.{Row, row}
use Rattle.block.specs.Extents.{list_bytes}
use Rattle.block.specs.Runs.{Run, runs, corners, triangles, sum_over}
use Rattle.primitives.specs.Primitives.{face_list}
use Rattle.mesh.specs.Grid.{x_dimension, z_dimension}
use Rattle.mesh.specs.Extrusion.{spine_count, section_count, section_of, cap_length, has_cap}
use Rattle.mesh.specs.FaceSet.{point_count}

-- FORMAT 4: P, C and N
pub record Sizes : Type 0 where
  pub points : ℕ
  pub corners : ℕ
  pub indices : ℕ

-- ---- face set, and triangle, fan, strip or quad set

-- FORMAT 6.1: the runs of coordIndex
abbrev pub coord_runs : List ℕ → Header → List Run
coord_runs bs h = runs (entries (list_bytes bs h 1))

-- FORMAT 4, 6.2: of p points and the runs rs, the corners and the triangles of the kept faces
abbrev pub run_sizes : ℕ → List Run → Sizes
run_sizes p rs = record { points = p; corners = sum_over (corners p) rs; indices = 3 * sum_over (triangles p) rs }

unfoldable pub face_set_sizes : List ℕ → Header → Sizes
face_set_sizes bs h = run_sizes (point_count h) (coord_runs bs h)

-- FORMAT 4, 6.4: the runs of the face set that lists the primitives one by one
abbrev pub listed_runs : Topology → List ℕ → Header → List Run
listed_runs g bs h = runs (face_list (point_count h) g (entries (list_bytes bs h 1)))

unfoldable pub primitive_sizes : Topology → List ℕ → Header → Sizes
primitive_sizes g bs h = run_sizes (point_count h) (listed_runs g bs h)

-- ---- line set

-- FORMAT 6.3: how many entries name one of p points
unfoldable pub named : ℕ → List ℕ → ℕ
named p [] = 0
named p (e ∷ es) = let n = named p es in cond (ltb e p) (suc n) n

-- FORMAT 6.3: how many lines: an entry that names a point, after one that does
unfoldable pub lines_after : ℕ → Bool → List ℕ → ℕ
lines_after p prev [] = 0
lines_after p prev (e ∷ es) = let n = lines_after p (ltb e p) es in cond prev (cond (ltb e p) (suc n) n) n

-- FORMAT 4, 6.3: the entries that name a point, and two indices a line
unfoldable pub line_set_sizes : List ℕ → Header → Sizes
line_set_sizes bs h =
    record {
      points = point_count h;
      corners = sum_over (named (point_count h)) (coord_runs bs h);
      indices = 2 * sum_over (lines_after (point_count h) false) (coord_runs bs h);
    }

-- ---- grid

-- FORMAT 8.3, 8.4: how many quads a grid has, and how many faces the sides of an extrusion: between points in rows and columns, by the first two counts
abbrev pub quad_count : Header → ℕ
quad_count h = (get_or h.counts 0 0 - 1) * (get_or h.counts 1 0 - 1)

-- FORMAT 4, 8.3: sides multiplied, however many heights there are; 4 corners and 2 triangles a quad
unfoldable pub grid_sizes : Header → Sizes
grid_sizes h = record { points = x_dimension h * z_dimension h; corners = 4 * quad_count h; indices = 6 * quad_count h }

-- ---- extrusion

-- FORMAT 8.4: how many caps of k corners there are
abbrev pub cap_count : Header → ℕ → ℕ
cap_count h k = from_bool (has_cap h.begin_cap k) + from_bool (has_cap h.end_cap k)

-- FORMAT 4, 8.4: 4 corners and 2 triangles a side's face; k corners and k - 2 triangles a cap
unfoldable pub extrusion_sizes : List ℕ → Header → Sizes
extrusion_sizes bs h =
    let k = cap_length (section_of bs h) in
    record {
      points = spine_count h * section_count h;
      corners = 4 * quad_count h + cap_count h k * k;
      indices = 6 * quad_count h + cap_count h k * (3 * (k - 2));
    }

-- ---- by kind

-- FORMAT 4: by kind
unfoldable pub sizes_of : List ℕ → Header → Sizes
sizes_of bs h = by_kind h.kind (face_set_sizes bs h) (line_set_sizes bs h) (grid_sizes h) (extrusion_sizes bs h) (λ g. primitive_sizes g bs h)

-- FORMAT 2.4: the count of the heights
abbrev pub height_count : Header → ℕ
height_count h = get_or h.counts 3 0

-- FORMAT 3, 6, elevation_grid (None): of a grid
abbrev pub is_no_grid : Header → Bool
is_no_grid h = ltb (x_dimension h) 2 || (ltb (z_dimension h) 2 || ltb (height_count h) (x_dimension h * z_dimension h))

-- FORMAT 3, 6, extrusion (None): of an extrusion
abbrev pub is_no_extrusion : Header → Bool
is_no_extrusion h = ltb (spine_count h) 2 || ltb (section_count h) 2

-- FORMAT 3, 6, no shape: grid side below 2, heights fewer than sides multiplied, spine or cross-section below 2
unfoldable pub is_no_shape : Header → Bool
is_no_shape h = by_kind h.kind false false (is_no_grid h) (is_no_extrusion h) (λ g. false)

-- FORMAT 3, 7, corners: P or C above the edition's limit
unfoldable pub is_over_corners : List ℕ → Header → Bool
is_over_corners bs h = let s = sizes_of bs h in ltb (limit_of h.edition) s.points || ltb (limit_of h.edition) s.corners

-- FORMAT 3: the rows 6 and 7, of a block that the rows 1 to 5 and 9 let pass
unfoldable pub shape_rows : List ℕ → Header → List Row
shape_rows bs h = row NoShape (is_no_shape h) ∷ row Corners (is_over_corners bs h) ∷ []
