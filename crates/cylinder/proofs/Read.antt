-- FORMAT 17.8, 17.10: a cylinder reads no pair but those that it asks for.
use mathlib.Core.Path.{◌≡◌, ap}
use mathlib.Core.Bool.{Bool, true, false}
use mathlib.Core.List.{List, [], ◌∷◌}
use Prim.Native.Nat.{ℕ, ◌+◌, ◌≤◌, ◌<◌}
use native.Mathlib.Omega.{arith}
use lib.Ieee.{Float, binary32, mul, div, neg}
use Rattle.math.specs.Vector.{v3, zero_f, one_f, two_f}
use Rattle.lists.specs.Lists.{flat}
use Rattle.lists.specs.Loops.{tab}
use Rattle.lists.proofs.Tabs.{tab_same}
use Rattle.parts.specs.declared.vert.Vert.{Vert}
use Rattle.parts.specs.Ring.{share_of}
use Rattle.parts.specs.Sizes.{dim_of, held_to}
use Rattle.parts.specs.Part.{followed}
use Rattle.parts.specs.Cap.{cap_at}
use Rattle.parts.proofs.Taking.{Agree, ring_same, Reads, reads_asked, reads_where, reads_followed, cap_reads}
use Rattle.cylinder.specs.Cylinder.{side_vert, side_verts, side_tris, side_part, side_at, cylinder_part, cylinder_of}

module _ (r h : Float) (n : ℕ) where
  module _ (ps qs : List Float) (m : ℕ) (g : n + 1 ≤ m) (A : Agree m ps qs) (i : ℕ) (b : i < n + 1) where
    vert_same : (y v : Float) → side_vert ps r n i y v ≡ side_vert qs r n i y v
    unfolding side_vert
    vert_same y v =
        let q = ring_same m ps qs A i (omega (arith, g, b)) in
        λ t. record { position = v3 (mul binary32 (q t).x r) y (mul binary32 (q t).z r); normal = v3 (q t).x zero_f (q t).z; st = record { s = share_of i n; t = v } }

    two_same : side_verts ps r h n i ≡ side_verts qs r h n i
    unfolding side_verts
    two_same = λ t. vert_same (neg h) zero_f t ∷ vert_same h one_f t ∷ []

  side_reads : Reads (λ ps. side_part ps r h n)
  unfolding side_part
  side_reads ps qs m g A =
      ap (λ (l : List (List Vert)). record { verts = flat l; indices = flat (tab side_tris n 0); pairs = n + 1 }) (tab_same (side_verts ps r h n) (side_verts qs r h n) (n + 1) (two_same ps qs m g A))

  part_reads : (side top bottom : Bool) → Reads (λ ps. cylinder_part ps r h n side top bottom)
  unfolding cylinder_part side_at
  part_reads side top bottom =
      reads_followed (λ ps. followed (side_at ps side r h n) (cap_at ps top h r n true)) (λ ps. cap_at ps bottom (neg h) r n false)
      (reads_followed (λ ps. side_at ps side r h n) (λ ps. cap_at ps top h r n true) (reads_where (λ ps. side_part ps r h n) side side_reads) (cap_reads top h r n true))
      (cap_reads bottom (neg h) r n false)

pub cylinder_read : (radius height : Float) (side top bottom : Bool) (slices : ℕ) (ps qs : List Float) → Agree (cylinder_of radius height side top bottom slices ps).pairs ps qs
    → cylinder_of radius height side top bottom slices ps ≡ cylinder_of radius height side top bottom slices qs
unfolding cylinder_of
cylinder_read radius height side top bottom slices =
    let r : Float = dim_of radius one_f in
    let h : Float = div binary32 (dim_of height two_f) two_f in
    reads_asked (λ ps. cylinder_part ps r h (held_to slices 3) side top bottom) (part_reads r h (held_to slices 3) side top bottom)
