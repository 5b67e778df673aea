-- What is asked of a grid, its plan and its tables, from a block that was not refused.
use mathlib.Core.Path.{◌≡◌}
use mathlib.Core.Bool.{false}
use mathlib.Core.List.{List}
use Prim.Native.Nat.{ℕ, ◌*◌, ◌≤◌}
use native.Mathlib.Omega.{arith}
use borrow.Author.Tests.{ltb-false}
use lib.Dec.{ltb}
use lib.ListN.{length}
use Rattle.bits.specs.Bits.{entries}
use Rattle.block.specs.Edition.{most}
use Rattle.block.specs.declared.kind.Kind.TheVariants.{Grid}
use Rattle.block.specs.declared.header.Header.{Header}
use Rattle.block.specs.Header.{header_of}
use Rattle.block.specs.Extents.{grid_widths, word_count, list_size, list_bytes}
use Rattle.block.proofs.EditionLaws.{count_narrow}
use Rattle.block.proofs.ExtentLaws.{widths_of, size_by, list_entries}
use Rattle.mesh.specs.Grid.{x_dimension, z_dimension}
use Rattle.mesh.specs.Sizes.{height_count, is_no_grid}
use Rattle.lists.proofs.Tests.{or_none}
use Rattle.grid.specs.Sides.{Sides}

pub sides_of : (bs : List ℕ) (h : Header) → h ≡ header_of bs → 2 ≤ x_dimension h → 2 ≤ z_dimension h → x_dimension h * z_dimension h ≤ most → Sides h
sides_of bs h e x z f = record {
  wide = x;
  deep = z;
  width = rw e (count_narrow bs 0);
  depth = rw e (count_narrow bs 1);
  few = f;
}

-- FORMAT 2.4, 2.5: of a block of the right length, the list of heights has as many entries as its count tells
pub heights_in : (bs : List ℕ) (h : Header) → h.kind ≡ Grid → length bs ≡ 4 * word_count h → (n : ℕ) → n ≤ height_count h
    → n ≤ length (entries (list_bytes bs h 3))
heights_in bs h k w n l =
    let s : list_size h 3 ≡ 1 * height_count h = size_by h (grid_widths h.alpha) 3 (widths_of h k) in
    omega (arith, list_entries bs h 3 w)

-- FORMAT 3, 6: of a grid that has a shape
pub shape_of : (h : Header) → is_no_grid h ≡ false → (2 ≤ x_dimension h) × (2 ≤ z_dimension h) × (x_dimension h * z_dimension h ≤ height_count h)
shape_of h e =
    let a = or_none (ltb (x_dimension h) 2) _ e in
    let b = or_none (ltb (z_dimension h) 2) _ a.1 in
    (ltb-false _ _ a.0, ltb-false _ _ b.0, ltb-false _ _ b.1)
