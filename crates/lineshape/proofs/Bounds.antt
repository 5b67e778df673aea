-- FORMAT 3, 4: the sizes of an accepted line set, and the room for its tables.
use mathlib.Core.Path.{◌≡◌, refl, sym, ap, ◌∙◌, subst}
use mathlib.Core.Bool.{false}
use mathlib.Core.List.{List}
use Prim.Native.Nat.{ℕ, ◌*◌, ◌/◌, ◌^◌, ◌≤◌}
use lib.ListN.{length, take}
use native.Mathlib.Omega.{arith}
use Rattle.bits.specs.Bits.{entries}
use Rattle.block.specs.declared.kind.Kind.TheVariants.{LineSet}
use Rattle.block.specs.declared.header.Header.{Header}
use Rattle.block.specs.Extents.{list_bytes}
use Rattle.block.specs.Runs.{runs, sum_over}
use Rattle.block.proofs.ExtentLaws.{widths_of}
use Rattle.mesh.specs.Mesh.{Slices}
use Rattle.mesh.specs.FaceSet.{coord_in, point_count}
use Rattle.mesh.specs.Sizes.{Sizes, named, lines_after, line_set_sizes, sizes_of}
use Rattle.tables.specs.Layout.{most}
use Rattle.corners.specs.declared.laid.CornerTables.{CornerTables}
use Rattle.corners.specs.Laid.{Laid}
use Rattle.block.specs.declared.settings.Settings.{Settings}
use Rattle.lent.specs.Lent.{Asked, Enough}
use Rattle.lent.proofs.Accepts.{low_by, enough_by}
use Rattle.lent.proofs.Points.{points_in_lem, points_all}
use Rattle.lines.proofs.Counts.{coord_short}
use Rattle.lineshape.specs.Shape.{tables_for, line_tables}
use Rattle.corners.proofs.Rooms.{plan_laid}

-- FORMAT 4, 6.3: the sizes of p points and the runs of the entries es
abbrev pub sizes_by : ℕ → List ℕ → Sizes
sizes_by p es = record { points = p; corners = sum_over (named p) (runs es); indices = 2 * sum_over (lines_after p false) (runs es) }

module _ {bs : List ℕ} {h : Header} {s : Settings} {o : Slices} {w f : ℕ} (A : Asked LineSet bs h s o w f) where
  sizes_are : sizes_of bs h ≡ line_set_sizes bs h
  unfolding sizes_of
  sizes_are = rw A.kind refl

  pub points_low : point_count h ≤ most
  unfolding line_set_sizes
  points_low = (low_by A sizes_are).0

  module _ {list : List ℕ} (l : list ≡ list_bytes bs h 0) where
    pub points_there : 3 * point_count h ≤ length list / 4
    points_there = rw l (points_in_lem A.accepted (widths_of h A.kind))

    pub points_whole : take (3 * point_count h) (entries list) ≡ entries list
    points_whole = rw l (points_all A.accepted (widths_of h A.kind))

  module _ {coord : List ℕ} (c : coord ≡ list_bytes bs h 1) where
    sizes_by_lem : sizes_of bs h ≡ sizes_by (point_count h) (entries coord)
    unfolding line_set_sizes
    sizes_by_lem = sizes_are ∙ ap (λ (l : List ℕ). sizes_by (point_count h) (entries l)) (sym c)

    pub enough : Enough (sizes_by (point_count h) (entries coord)) o w f
    enough = enough_by A sizes_by_lem

    pub corners_low : sum_over (named (point_count h)) (runs (entries coord)) ≤ most
    corners_low = (low_by A sizes_by_lem).1

    -- the corners as they were counted
    module _ {count : ℕ} (e : count ≡ (sizes_of bs h).corners) where
      pub count_low : count ≤ most
      count_low = rw (e ∙ ap (λ (z : Sizes). z.corners) sizes_by_lem) corners_low

      pub tables_are : {t : CornerTables} → t ≡ tables_for (point_count h) count → t ≡ line_tables (point_count h) (entries coord)
      unfolding line_tables
      tables_are q = q ∙ ap (tables_for (point_count h)) (e ∙ ap (λ (z : Sizes). z.corners) sizes_by_lem)

    pub laid_at : {t : CornerTables} → t ≡ line_tables (point_count h) (entries coord) → Laid t w
    unfolding line_tables
    laid_at e = subst (λ (t : CornerTables). Laid t w) (sym e) (plan_laid (point_count h) _ 0 0 points_low corners_low (omega arith) w enough.words)

    pub entries_short : length coord / 4 ≤ 2 ^ 32
    unfolding coord_in
    entries_short =
        let e = A.accepted.header in
        subst (λ (l : List ℕ). length l / 4 ≤ 2 ^ 32) (ap (λ (g : Header). list_bytes bs g 1) (sym e) ∙ sym c) (coord_short bs (ap (λ (g : Header). g.kind) (sym e) ∙ A.kind))
