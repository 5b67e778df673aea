-- FORMAT 18: the outlines of a block's faces, by the numbers of their points; from the block alone.
use Rattle.std.specs.Prelude.{ℕ, ◌+◌, ◌-◌, ◌*◌, Bool, cond, List, [], ◌∷◌, ◌++◌, reverse}
use Rattle.block.specs.declared.header.Header.{Header}
use Rattle.block.specs.Header.{header_of}
use Rattle.block.specs.Kind.{by_kind}
use Rattle.block.specs.Runs.{Run, kept}
use Rattle.lists.specs.Loops.{tab}
use Rattle.mesh.specs.FaceSet.{point_count}
use Rattle.lists.specs.Lists.{tabs}
use Rattle.mesh.specs.Quads.{quad}
use Rattle.mesh.specs.Grid.{x_dimension, z_dimension}
use Rattle.mesh.specs.Extrusion.{spine_count, section_count, section_of, point_number, cap_length, has_cap}
use Rattle.mesh.specs.Sizes.{coord_runs, listed_runs}

-- FORMAT 18: the points of a face's corners, in order
abbrev pub Outline : Type 0
Outline = List ℕ

-- FORMAT 6.2: of p points, the runs that are kept
unfoldable pub kept_runs : ℕ → List Run → List Outline
kept_runs p [] = []
kept_runs p (r ∷ rs) = let more = kept_runs p rs in cond (kept p r.items) (r.items ∷ more) more

-- FORMAT 8.3: the quads, row by row; the point (i, j) has the number i + j × xDimension
unfoldable pub grid_outlines : Header → List Outline
grid_outlines h =
    tabs (λ j i. quad (λ i j. i + j * x_dimension h) i j) (z_dimension h - 1) (x_dimension h - 1)

-- FORMAT 8.4: the first k points of row i, of rows of m
unfoldable pub row_outline : ℕ → ℕ → ℕ → Outline
row_outline m k i = tab (point_number m i) k 0

-- FORMAT 8.4: an outline, where there is a cap
abbrev pub outline_if : Bool → Outline → List Outline
outline_if b o = cond b (o ∷ []) []

-- FORMAT 8.4: of n rows of m points, with caps of k: the sides, the begin cap turned, the end cap
unfoldable pub extrusion_outlines : Header → ℕ → ℕ → ℕ → List Outline
extrusion_outlines h n m k =
    tabs (quad (point_number m)) (n - 1) (m - 1)
    ++ (outline_if (has_cap h.begin_cap k) (reverse (row_outline m k 0))
    ++ outline_if (has_cap h.end_cap k) (row_outline m k (n - 1)))

-- FORMAT 18: by kind: kept runs, nothing of a line set, quads, sides and caps, and the kept runs
-- of the face set that lists the primitives one by one
unfoldable pub outlines : List ℕ → List Outline
outlines bs =
    let h = header_of bs in
    by_kind h.kind
    (kept_runs (point_count h) (coord_runs bs h))
    []
    (grid_outlines h)
    (extrusion_outlines h (spine_count h) (section_count h) (cap_length (section_of bs h)))
    (λ g. kept_runs (point_count h) (listed_runs g bs h))
