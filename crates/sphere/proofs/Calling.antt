-- The call of a sphere, with its size, slices and stacks as the code reads them.
use mathlib.Core.Path.{◌≡◌, sym, ap, subst}
use mathlib.Core.List.{List}
use Prim.Native.Nat.{ℕ, ◌+◌, ◌*◌, ◌≤◌}
use native.Mathlib.Omega.{arith}
use lib.ListN.{length}
use borrow.Rule.Slice.Mut.{set_vals}
use lib.Ieee.{Float}
use Rattle.math.specs.Vector.{one_f}
use Rattle.lists.specs.Lists.{flat}
use Rattle.lists.specs.Loops.{tab}
use Rattle.lists.specs.Parts.{spliced}
use Rattle.lists.proofs.Pieces.{length_pieces}
use Rattle.parts.specs.declared.sizes.PartSizes.{PartSizes}
use Rattle.parts.specs.declared.builder.Builder.{Builder}
use Rattle.parts.specs.declared.vert.Vert.{Vert}
use Rattle.parts.specs.Sizes.{dim_of, held_to}
use Rattle.parts.specs.Part.{Part}
use Rattle.parts.specs.Building.{Room, Pushes}
use Rattle.parts.specs.Written.{Sized, Written, Roomy}
use Rattle.parts.proofs.Pushing.{room_less}
use Rattle.parts.proofs.Building.{writes_both}
use Rattle.parts.proofs.Holding.{held_between}
use Rattle.sphere.specs.Sphere.{sphere_row, sphere_band, sphere_part, sphere_of}
use Rattle.sphere.proofs.Sized.{row_length}

module _ (radius : Float) (slices stacks : ℕ) (ps : List Float) {r : Float} {n k : ℕ} (er : r ≡ dim_of radius one_f) (en : n ≡ held_to slices 3) (ek : k ≡ held_to stacks 2) where
  pub low : (n ≤ 1024) × (2 ≤ k) × (k ≤ 1024)
  low =
      let a = held_between slices 3 (omega arith) in
      let b = held_between stacks 2 (omega arith) in
      (omega (arith, en, a), omega (arith, ek, b), omega (arith, ek, b))

  read : sphere_part r n k ps ≡ sphere_of radius slices stacks ps
  unfolding sphere_of
  read = λ t. sphere_part (er t) (en t) (ek t) ps

  pub sized_call : {z : PartSizes} → Sized (sphere_part r n k ps) z → Sized (sphere_of radius slices stacks ps) z
  sized_call {z} Z = subst (λ (p : Part). Sized p z) read Z

  module _ {b : Builder} (R : Roomy (sphere_of radius slices stacks ps) 0 0 b) where
    Q : Roomy (sphere_part r n k ps) 0 0 b
    Q = subst (λ (p : Part). Roomy p 0 0 b) (sym read) R

    pub rows_room : Room (0 + (k + 1) * (n + 1)) b
    unfolding sphere_part
    rows_room = room_less b.ctx (omega (arith, length_pieces (sphere_row r n k ps) (n + 1) (row_length r n k ps) (k + 1))) Q.vertices

    pub bands_room : {j : ℕ} {vs : List Vert} {b' : Builder} → Pushes j vs b b' → length (flat (tab (sphere_band n k) k 0)) ≤ length b'.indices.now
    unfolding sphere_part
    bands_room P = omega (arith, Q.places, ap length P.indices)

  pub written_call : {b b' : Builder} {l : List ℕ} → Pushes 0 (flat (tab (sphere_row r n k ps) (k + 1) 0)) b b' → l ≡ spliced b'.indices.now 0 (flat (tab (sphere_band n k) k 0))
      → Written (sphere_of radius slices stacks ps) 0 0 b (record b' { indices = set_vals l b'.indices })
  unfolding sphere_part
  written_call {b} {b'} {l} P e = subst (λ (p : Part). Written p 0 0 b (record b' { indices = set_vals l b'.indices })) read (writes_both P e)
