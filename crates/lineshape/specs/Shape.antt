-- FORMAT 3, 4, 8.2: a line set that is accepted, with slices long enough; where its tables stand; and what they hold.
use Rattle.std.specs.Prelude.{◌≡◌, cond, List, ℕ, ◌+◌, ◌*◌, length, take}
use Rattle.block.specs.declared.header.Header.{Header}
use Rattle.block.specs.Runs.{runs, sum_over}
use Rattle.mesh.specs.Sizes.{named}
use Rattle.vertices.specs.declared.places.Widths.{Widths}
use Rattle.vertices.specs.Places.{colour_words}
use Rattle.vertices.specs.Adding.{points_in}
use Rattle.corners.specs.declared.laid.CornerTables.{CornerTables}
use Rattle.corners.specs.Laid.{tables_of, chains_of}
use Rattle.tables.specs.Layout.{plan_of}
use Rattle.lines.specs.Uses.{Listed}

-- FORMAT 4, 8.2: p points and c corners, and no faces
abbrev pub tables_for : ℕ → ℕ → CornerTables
tables_for p c = tables_of (plan_of p c 0 0)

-- a corner for each entry that names a point in the runs of the entries es
unfoldable pub line_tables : ℕ → List ℕ → CornerTables
line_tables p es = tables_for p (sum_over (named p) (runs es))

-- FORMAT 5, 8.2: no normals and no texture are made
unfoldable pub line_widths : Header → Widths
line_widths h = record { normal = 0; colour = cond h.colors colour_words 0; texture = 0 }

-- FORMAT 6.3: the words w became w': the words `held` have the first p of the points `list`, and were then given the corners of the entries es
pub record Tabled (p : ℕ) (list es : List ℕ) (t : CornerTables) (w w' : List ℕ) : Type 0 where
  pub held : List ℕ
  pub len : length held ≡ length w
  pub points : points_in (chains_of t) held ≡ take (3 * p) list
  pub listed : Listed p es t held w'
