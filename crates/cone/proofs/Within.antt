-- FORMAT 17.9: every index of a cone names a vertex.
use mathlib.Core.Path.{◌≡◌}
use mathlib.Core.Bool.{Bool, false}
use mathlib.Core.List.{List}
use Prim.Native.Nat.{ℕ, ◌+◌, ◌*◌, ◌<◌}
use native.Mathlib.Omega.{arith}
use lib.ListN.{length}
use lib.Ieee.{Float, binary32, neg, div}
use Rattle.math.specs.Vector.{one_f, two_f}
use Rattle.lists.specs.Loops.{tab, All}
use Rattle.lists.proofs.Lists.{All_by, All_flat}
use Rattle.parts.specs.Sizes.{dim_of, held_to}
use Rattle.parts.specs.Part.{Part}
use Rattle.parts.specs.Cap.{cap_at}
use Rattle.parts.proofs.Naming.{Names, names_where, names_followed, cap_at_names}
use Rattle.cone.specs.Cone.{cone_tri, cone_side, cone_side_at, cone_side_sizes, cone_part, cone_of}
use Rattle.cone.proofs.Sides.{side_sized}

module _ (ps : List Float) (r h : Float) (n : ℕ) where
  abbrev below : ℕ → Type 0
  below i = i < 0 + length (cone_side ps r h n).verts

  side_wide : 3 * n ≡ length (cone_side ps r h n).verts
  unfolding cone_side_sizes
  side_wide = (side_sized ps r h n).vertices

  tri_names : (i : ℕ) → i < n → All below (cone_tri i)
  unfolding cone_tri
  tri_names i b = (omega (arith, side_wide), (omega (arith, side_wide), (omega (arith, side_wide), tt)))

  side_names : Names 0 (cone_side ps r h n)
  unfolding cone_side
  side_names = All_flat below (tab cone_tri n 0) (All_by (λ (l : List ℕ). All below l) cone_tri n tri_names)

  part_names : (side bottom : Bool) → Names 0 (cone_part ps r h n side bottom)
  unfolding cone_part cone_side_at
  part_names side bottom =
      let p : Part = cone_side_at ps side r h n in
      names_followed p (cap_at ps bottom (neg (div binary32 h two_f)) r n false) (names_where 0 side (cone_side ps r h n) side_names)
      (cap_at_names ps (record { y = neg (div binary32 h two_f); r = r; slices = n; top = false; first = length p.verts; pair = p.pairs }) bottom)

pub cone_within : (radius height : Float) (side bottom : Bool) (slices : ℕ) (ps : List Float) → Names 0 (cone_of radius height side bottom slices ps)
unfolding cone_of
cone_within radius height side bottom slices ps = part_names ps (dim_of radius one_f) (dim_of height two_f) (held_to slices 3) side bottom
