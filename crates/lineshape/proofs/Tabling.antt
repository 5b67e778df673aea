-- FORMAT 4, 6.3: where the tables of a line set stand, and what is written to them.
use mathlib.Core.Path.{◌≡◌, ap, ◌∙◌}
use mathlib.Core.List.{List}
use Prim.Native.Nat.{ℕ, ◌+◌, ◌*◌, ◌≤◌}
use native.Mathlib.Omega.{arith}
use lib.ListN.{take, length}
use Rattle.block.specs.Runs.{runs, sum_over}
use Rattle.mesh.specs.Sizes.{named}
use Rattle.tables.specs.Layout.{plan_of}
use Rattle.vertices.specs.Adding.{points_in}
use Rattle.corners.specs.declared.laid.CornerTables.{CornerTables}
use Rattle.corners.specs.Laid.{tables_of, Laid}
use Rattle.lists.specs.Parts.{spliced}
use Rattle.lists.proofs.Splices.{put_gives}
use lib.Seq.{length-take-le}
use Rattle.lines.specs.Uses.{Listed}
use Rattle.lineshape.specs.Shape.{line_tables, Tabled}

-- the points are within the words
pub points_fit : {t : CornerTables} {len : ℕ} → Laid t len → t.points + 3 * t.spots ≤ len
points_fit L = omega (arith, L.points, L.named, L.places, L.numbers, L.textures, L.heads, L.nexts)

module _ (p : ℕ) (es : List ℕ) {t : CornerTables} (e : t ≡ line_tables p es) where
  -- the points are at the start, and the corners' points follow
  pub stand : (t.points ≡ 0) × (t.spots ≡ p) × (t.corners ≡ 3 * p) × (t.count ≡ sum_over (named p) (runs es))
  unfolding line_tables tables_of plan_of
  stand =
      (ap (λ (t : CornerTables). t.points) e, ap (λ (t : CornerTables). t.spots) e, ap (λ (t : CornerTables). t.corners) e, ap (λ (t : CornerTables). t.count) e)

  pub points_before : t.points + 3 * t.spots ≤ t.corners
  points_before = omega (arith, stand.0, stand.1, stand.2)

  pub tabled : {list w w₁ w₂ : List ℕ} → 3 * t.spots ≤ length list → t.points + 3 * t.spots ≤ length w → w₁ ≡ spliced w t.points (take (3 * t.spots) list) → Listed p es t w₁ w₂ → Tabled p list es t w w₂
  unfolding points_in
  tabled {list} {w} {w₁} {w₂} n r C E =
      let G = put_gives _ C (length-take-le (3 * t.spots) list n) r in
      record { held = w₁; len = G.0.len; points = G.1 ∙ ap (λ (k : ℕ). take (3 * k) list) stand.1; listed = E }
