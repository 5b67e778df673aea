-- FORMAT 17.9, 17.10: a cone reads no pair but those that it asks for.
use mathlib.Core.Path.{◌≡◌, ap}
use mathlib.Core.Bool.{Bool, false}
use mathlib.Core.List.{List, [], ◌∷◌}
use Prim.Native.Nat.{ℕ, ◌+◌, ◌*◌, ◌≤◌, ◌<◌}
use native.Mathlib.Omega.{arith}
use lib.Ieee.{Float, binary32, add, mul, div, neg}
use Rattle.math.specs.Vector.{v3, zero_f, one_f, two_f, y_axis, unit_of}
use Rattle.lists.specs.Lists.{flat}
use Rattle.lists.specs.Loops.{tab}
use Rattle.lists.proofs.Tabs.{tab_same}
use Rattle.mesh.specs.Normals.{or_else}
use Rattle.parts.specs.declared.ring.Ring.{Ring}
use Rattle.parts.specs.declared.vert.Vert.{Vert}
use Rattle.parts.specs.Ring.{share_of}
use Rattle.parts.specs.Sizes.{dim_of, held_to}
use Rattle.parts.specs.Cap.{cap_at}
use Rattle.parts.proofs.Taking.{Agree, ring_same, Reads, reads_asked, reads_where, reads_followed, cap_reads}
use Rattle.cone.specs.Cone.{cone_normal, cone_foot, cone_apex, cone_verts, cone_tri, cone_side, cone_side_at, cone_part, cone_of}

module _ (r h : Float) (n : ℕ) where
  module _ (ps qs : List Float) (m : ℕ) (g : 5 * n ≤ m) (A : Agree m ps qs) where
    normal_same : (p : ℕ) → p < m → cone_normal ps r h p ≡ cone_normal qs r h p
    unfolding cone_normal
    normal_same p b = ap (λ (q : Ring). or_else (unit_of (v3 (mul binary32 q.x h) r (mul binary32 q.z h))) y_axis) (ring_same m ps qs A p b)

    foot_same : (p q : ℕ) (s : Float) → p < m → q < m → cone_foot ps r h p q s ≡ cone_foot qs r h p q s
    unfolding cone_foot
    foot_same p q s b d =
        let x = ring_same m ps qs A p b in
        let e = normal_same q d in
        λ t. record { position = v3 (mul binary32 (x t).x r) (neg (div binary32 h two_f)) (mul binary32 (x t).z r); normal = e t; st = record { s = s; t = zero_f } }

    apex_same : (q : ℕ) (s : Float) → q < m → cone_apex ps r h q s ≡ cone_apex qs r h q s
    unfolding cone_apex
    apex_same q s d =
        let e = normal_same q d in
        λ t. record { position = v3 zero_f (div binary32 h two_f) zero_f; normal = e t; st = record { s = s; t = one_f } }

    verts_same : (i : ℕ) → i < n → cone_verts ps r h n i ≡ cone_verts qs r h n i
    unfolding cone_verts
    verts_same i b =
        let p : ℕ = 5 * i in
        let s0 : Float = share_of i n in
        let s1 : Float = share_of (i + 1) n in
        let u = foot_same p (p + 2) s0 (omega (arith, g, b)) (omega (arith, g, b)) in
        let v = foot_same (p + 1) (p + 3) s1 (omega (arith, g, b)) (omega (arith, g, b)) in
        let w = apex_same (p + 4) (div binary32 (add binary32 s0 s1) two_f) (omega (arith, g, b)) in
        λ t. u t ∷ v t ∷ w t ∷ []

  side_reads : Reads (λ ps. cone_side ps r h n)
  unfolding cone_side
  side_reads ps qs m g A =
      ap (λ (l : List (List Vert)). record { verts = flat l; indices = flat (tab cone_tri n 0); pairs = 5 * n }) (tab_same (cone_verts ps r h n) (cone_verts qs r h n) n (verts_same ps qs m g A))

  part_reads : (side bottom : Bool) → Reads (λ ps. cone_part ps r h n side bottom)
  unfolding cone_part cone_side_at
  part_reads side bottom =
      reads_followed (λ ps. cone_side_at ps side r h n) (λ ps. cap_at ps bottom (neg (div binary32 h two_f)) r n false)
      (reads_where (λ ps. cone_side ps r h n) side side_reads)
      (cap_reads bottom (neg (div binary32 h two_f)) r n false)

pub cone_read : (radius height : Float) (side bottom : Bool) (slices : ℕ) (ps qs : List Float) → Agree (cone_of radius height side bottom slices ps).pairs ps qs
    → cone_of radius height side bottom slices ps ≡ cone_of radius height side bottom slices qs
unfolding cone_of
cone_read radius height side bottom slices =
    let r : Float = dim_of radius one_f in
    let h : Float = dim_of height two_f in
    reads_asked (λ ps. cone_part ps r h (held_to slices 3) side bottom) (part_reads r h (held_to slices 3) side bottom)
