-- FORMAT 2.2: a block lists few entries: what `list_entries` asks of their number holds of every line set.
use mathlib.Core.Path.{◌≡◌}
use mathlib.Core.List.{List}
use Prim.Native.Nat.{ℕ, ◌*◌, ◌/◌, ◌^◌, ◌≤◌}
use native.Mathlib.Omega.{arith}
use lib.ListN.{length, get_or, drop, length-take}
use Rattle.block.specs.declared.kind.Kind.TheVariants.{LineSet}
use Rattle.block.specs.Header.{header_of}
use Rattle.block.specs.Extents.{set_widths, list_size, place_of}
use Rattle.block.proofs.EditionLaws.{count_narrow}
use Rattle.block.proofs.ExtentLaws.{widths_of, size_by, place_len}
use Rattle.mesh.specs.FaceSet.{coord_in}

pub coord_short : (bs : List ℕ) → (header_of bs).kind ≡ LineSet → length (coord_in bs) / 4 ≤ 2 ^ 32
unfolding coord_in
coord_short bs k =
    let h = header_of bs in
    let s : list_size h 1 ≡ 1 * get_or h.counts 1 0 = size_by h (set_widths h.alpha) 1 (widths_of h k) in
    omega (arith, length-take (place_of h 1).len (drop (place_of h 1).at bs), place_len h 1, s, count_narrow bs 1)
