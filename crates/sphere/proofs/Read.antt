-- FORMAT 17.7, 17.10: a sphere reads no pair but those that it asks for.
use mathlib.Core.Path.{◌≡◌, ap}
use mathlib.Core.List.{List}
use Prim.Native.Nat.{ℕ, suc, ◌+◌, ◌*◌, ◌≤◌, ◌<◌}
use native.Mathlib.Nat.{suc-mul, mul-le-mul_right}
use native.Mathlib.Omega.{arith}
use lib.Ieee.{Float, binary32, mul, neg}
use Rattle.math.specs.declared.vector.V3.{V3}
use Rattle.math.specs.Vector.{v3, one_f, vscale}
use Rattle.lists.specs.Lists.{flat}
use Rattle.lists.specs.Loops.{tab}
use Rattle.lists.proofs.Tabs.{tab_same}
use Rattle.parts.specs.declared.vert.Vert.{Vert}
use Rattle.parts.specs.Ring.{share_of}
use Rattle.parts.specs.Sizes.{dim_of, held_to}
use Rattle.parts.proofs.Taking.{Agree, sine_same, cosine_same, ring_same, Reads, reads_asked}
use Rattle.sphere.specs.Sphere.{sphere_vert, sphere_row, sphere_band, sphere_part, sphere_of}

module _ (r : Float) (n k : ℕ) where
  module _ (ps qs : List Float) (m : ℕ) (h : (k + 1) * (n + 2) ≤ m) (A : Agree m ps qs) where
    vert_same : (j i : ℕ) → j < k + 1 → i < n + 1 → sphere_vert r n k ps j i ≡ sphere_vert r n k qs j i
    unfolding sphere_vert
    vert_same j i hj hi =
        let w : suc j * (n + 2) ≤ (k + 1) * (n + 2) = mul-le-mul_right (n + 2) (omega arith) in
        let e = suc-mul j (n + 2) in
        let phi : ℕ = j * (n + 2) in
        let a = sine_same m ps qs A phi (omega arith) in
        let b = cosine_same m ps qs A phi (omega arith) in
        let q = ring_same m ps qs A (phi + 1 + i) (omega arith) in
        λ t.
        let nrm : V3 = v3 (mul binary32 (q t).x (a t)) (neg (b t)) (mul binary32 (q t).z (a t)) in
        record { position = vscale nrm r; normal = nrm; st = record { s = share_of i n; t = share_of j k } }

    row_same : (j : ℕ) → j < k + 1 → sphere_row r n k ps j ≡ sphere_row r n k qs j
    unfolding sphere_row
    row_same j hj = tab_same (sphere_vert r n k ps j) (sphere_vert r n k qs j) (n + 1) (λ i hi. vert_same j i hj hi)

  part_reads : Reads (sphere_part r n k)
  unfolding sphere_part
  part_reads ps qs m h A =
      ap (λ (l : List (List Vert)). record { verts = flat l; indices = flat (tab (sphere_band n k) k 0); pairs = (k + 1) * (n + 2) })
      (tab_same (sphere_row r n k ps) (sphere_row r n k qs) (k + 1) (row_same ps qs m h A))

pub sphere_read : (radius : Float) (slices stacks : ℕ) (ps qs : List Float) → Agree (sphere_of radius slices stacks ps).pairs ps qs → sphere_of radius slices stacks ps ≡ sphere_of radius slices stacks qs
unfolding sphere_of
sphere_read radius slices stacks = reads_asked (sphere_part (dim_of radius one_f) (held_to slices 3) (held_to stacks 2)) (part_reads (dim_of radius one_f) (held_to slices 3) (held_to stacks 2))
