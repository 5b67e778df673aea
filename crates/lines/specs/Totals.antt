-- FORMAT 4, 6.3: what one run of a line set has.
use Rattle.std.specs.Prelude.{◌≡◌, false, List, ℕ, ◌≤◌, length}
use Rattle.mesh.specs.Sizes.{named, lines_after}
use Rattle.lines.specs.declared.totals.LineTotals.{LineTotals}

-- the entries es of a run that name one of p points, and its lines; neither are more than the entries
pub record Counted (p : ℕ) (es : List ℕ) (r : LineTotals) : Type 0 where
  pub corners : r.corners ≡ named p es
  pub lines : r.lines ≡ lines_after p false es
  pub few : (r.corners ≤ length es) × (r.lines ≤ length es)
