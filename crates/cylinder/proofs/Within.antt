-- FORMAT 17.8: every index of a cylinder names a vertex.
use mathlib.Core.Path.{◌≡◌}
use mathlib.Core.Bool.{Bool, true, false}
use mathlib.Core.List.{List}
use Prim.Native.Nat.{ℕ, ◌+◌, ◌*◌, ◌<◌}
use native.Mathlib.Omega.{arith}
use lib.ListN.{length}
use lib.Ieee.{Float, binary32, neg, div}
use Rattle.math.specs.Vector.{one_f, two_f}
use Rattle.lists.specs.Loops.{tab, All}
use Rattle.lists.proofs.Lists.{All_by, All_flat}
use Rattle.parts.specs.Sizes.{dim_of, held_to}
use Rattle.parts.specs.Part.{Part, followed}
use Rattle.parts.specs.Cap.{cap_at}
use Rattle.parts.proofs.Naming.{Names, names_where, names_followed, cap_at_names}
use Rattle.cylinder.specs.Cylinder.{side_tris, side_part, side_at, side_sizes, cylinder_part, cylinder_of}
use Rattle.cylinder.proofs.Sides.{side_sized}

module _ (ps : List Float) (r h : Float) (n : ℕ) where
  abbrev below : ℕ → Type 0
  below i = i < 0 + length (side_part ps r h n).verts

  side_wide : 2 * (n + 1) ≡ length (side_part ps r h n).verts
  unfolding side_sizes
  side_wide = (side_sized ps r h n).vertices

  tris_names : (i : ℕ) → i < n → All below (side_tris i)
  unfolding side_tris
  tris_names i b = let e = side_wide in (omega arith, (omega arith, (omega arith, (omega arith, (omega arith, (omega arith, tt))))))

  side_names : Names 0 (side_part ps r h n)
  unfolding side_part
  side_names = All_flat below (tab side_tris n 0) (All_by (λ (l : List ℕ). All below l) side_tris n tris_names)

  -- a cap that follows p
  cap_names : (p : Part) (there : Bool) (y : Float) (top : Bool) → Names 0 p → Names 0 (followed p (cap_at ps there y r n top))
  cap_names p there y top P =
      names_followed p (cap_at ps there y r n top) P (cap_at_names ps (record { y = y; r = r; slices = n; top = top; first = length p.verts; pair = p.pairs }) there)

  part_names : (side top bottom : Bool) → Names 0 (cylinder_part ps r h n side top bottom)
  unfolding cylinder_part side_at
  part_names side top bottom =
      cap_names (followed (side_at ps side r h n) (cap_at ps top h r n true)) bottom (neg h) false (cap_names (side_at ps side r h n) top h true (names_where 0 side (side_part ps r h n) side_names))

pub cylinder_within : (radius height : Float) (side top bottom : Bool) (slices : ℕ) (ps : List Float) → Names 0 (cylinder_of radius height side top bottom slices ps)
unfolding cylinder_of
cylinder_within radius height side top bottom slices ps = part_names ps (dim_of radius one_f) (div binary32 (dim_of height two_f) two_f) (held_to slices 3) side top bottom
