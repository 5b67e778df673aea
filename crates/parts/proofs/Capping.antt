-- A cap: its triangles, its vertices, and how large it is where it is there.
use mathlib.Core.Path.{◌≡◌, refl, sym, ap, subst}
use mathlib.Core.Bool.{Bool, true, false}
use mathlib.Core.List.{List, [], ◌∷◌}
use Prim.Native.Nat.{ℕ, ◌+◌, ◌*◌, ◌≤◌}
use native.Mathlib.Omega.{arith}
use lib.ListN.{length}
use lib.Ieee.{Float}
use Rattle.lists.specs.Loops.{tab}
use Rattle.lists.proofs.Lists.{cond_long}
use Rattle.lists.proofs.Pieces.{length_pieces}
use Rattle.lists.proofs.Tabs.{length_tab}
use Rattle.parts.specs.declared.builder.Builder.{Builder}
use Rattle.parts.specs.declared.cap.Cap.{Cap}
use Rattle.parts.specs.declared.vert.Vert.{Vert}
use Rattle.parts.specs.Building.{Room, Pushes}
use Rattle.parts.specs.Sizes.{sizes_where}
use Rattle.parts.specs.Cap.{cap_centre, cap_vert, cap_verts, cap_tri, cap_indices, cap_part, cap_at, cap_sizes}
use Rattle.parts.specs.Written.{Sized, Roomy}
use Rattle.parts.proofs.Pushing.{room_less}
use Rattle.parts.proofs.Building.{room_after, pushes_on}

pub tri_wide : (k : Cap) (i : ℕ) → length (cap_tri k i) ≡ 3
unfolding cap_tri
tri_wide k i = cond_long k.top _ _ refl refl

-- ---- the cap whole

pub cap_verts_length : (ps : List Float) (k : Cap) → length (cap_verts ps k) ≡ k.slices + 1
unfolding cap_verts
cap_verts_length ps k = omega (arith, length_tab (cap_vert ps k) k.slices 0)

pub cap_indices_length : (k : Cap) → length (cap_indices k) ≡ 3 * k.slices
unfolding cap_indices
cap_indices_length k = omega (arith, length_pieces (cap_tri k) 3 (tri_wide k) k.slices)

module _ (ps : List Float) (k : Cap) {at : ℕ} {b : Builder} (R : Roomy (cap_part ps k) k.first at b) where
  ring_end : k.first + 1 + k.slices ≤ k.first + length (cap_verts ps k)
  ring_end = omega (arith, cap_verts_length ps k)

  pub centre_room : Room (k.first + 1) b
  unfolding cap_part
  centre_room = room_less b.ctx (omega (arith, ring_end)) R.vertices

  pub cap_places : {j : ℕ} {vs us : List Vert} {b' b'' : Builder} → Pushes k.first vs b b' → Pushes j us b' b'' → at + k.slices * 3 ≤ length b''.indices.now
  unfolding cap_part
  cap_places P Q = omega (arith, R.places, cap_indices_length k, ap length P.indices, ap length Q.indices)

  module _ {v : Vert} {b' : Builder} (P : Pushes k.first (v ∷ []) b b') where
    pub ring_room : Room (k.first + 1 + k.slices) b'
    unfolding cap_part
    ring_room = room_after P (omega arith) (room_less b.ctx ring_end R.vertices)

    pub cap_pushed : {b'' : Builder} → v ≡ cap_centre k → Pushes (k.first + 1) (tab (cap_vert ps k) k.slices 0) b' b'' → Pushes k.first (cap_verts ps k) b b''
    unfolding cap_verts cap_part
    cap_pushed {b''} e Q =
        let t = length_tab (cap_vert ps k) k.slices 0 in
        subst (λ (u : Vert). Pushes k.first (u ∷ tab (cap_vert ps k) k.slices 0) b b'') e (pushes_on P refl (room_less b.ctx (omega (arith, ring_end)) R.vertices) Q)

-- ---- where it is there

cap_part_sized : (ps : List Float) (k : Cap) → Sized (cap_part ps k) (cap_sizes k.slices)
unfolding cap_part cap_sizes
cap_part_sized ps k = record { vertices = sym (cap_verts_length ps k); indices = sym (cap_indices_length k); pairs = refl }

pub cap_sized : (ps : List Float) (there : Bool) (k : Cap) → Sized (cap_at ps there k.y k.r k.slices k.top k.first k.pair) (sizes_where there (cap_sizes k.slices))
unfolding cap_at sizes_where
cap_sized ps true k = cap_part_sized ps k
cap_sized ps false k = record { vertices = refl; indices = refl; pairs = refl }
