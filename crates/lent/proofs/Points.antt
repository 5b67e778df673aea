-- FORMAT 2.4: the points of an accepted block that lists them, three words each, are all of their list.
use mathlib.Core.Path.{◌≡◌, ◌∙◌}
use mathlib.Core.List.{List}
use Prim.Native.Nat.{ℕ, ◌*◌, ◌/◌, ◌≤◌}
use native.Mathlib.Omega.{arith}
use lib.ListN.{length, take}
use lib.Seq.{take_all}
use Rattle.bits.specs.Bits.{entries}
use Rattle.block.specs.declared.header.Header.{Header}
use Rattle.block.specs.declared.settings.Settings.{Settings}
use Rattle.block.specs.Extents.{set_widths, widths, list_size, list_bytes}
use Rattle.block.proofs.ExtentLaws.{size_by, list_length, list_entries}
use Rattle.mesh.specs.FaceSet.{point_count}
use Rattle.lent.specs.Lent.{Accepted}

module _ {bs : List ℕ} {h : Header} {s : Settings} (A : Accepted bs h s) (v : widths h ≡ set_widths h.alpha) where
  points_size : list_size h 0 ≡ 3 * point_count h
  points_size = size_by h (set_widths h.alpha) 0 v

  pub points_in_lem : 3 * point_count h ≤ length (list_bytes bs h 0) / 4
  points_in_lem = omega (arith, list_length bs h 0 A.taken.length_is, points_size)

  pub points_all : take (3 * point_count h) (entries (list_bytes bs h 0)) ≡ entries (list_bytes bs h 0)
  points_all =
      let n : length (entries (list_bytes bs h 0)) ≡ 3 * point_count h = list_entries bs h 0 A.taken.length_is ∙ points_size in
      take_all (3 * point_count h) (entries (list_bytes bs h 0)) (omega (arith, n))
