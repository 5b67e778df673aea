-- FORMAT 17.6: how large a box and a face of it are, and that what is written is the box.
use mathlib.Core.Path.{◌≡◌, refl, ap, subst}
use mathlib.Core.List.{List}
use Prim.Native.Nat.{ℕ, ◌+◌, ◌*◌, ◌≤◌, ◌<◌}
use native.Mathlib.Omega.{arith}
use lib.ListN.{length}
use borrow.Rule.Slice.Mut.{set_vals}
use Rattle.lists.specs.Lists.{flat}
use Rattle.lists.specs.Loops.{tab, All}
use Rattle.lists.specs.Parts.{spliced}
use Rattle.lists.proofs.Lists.{All_by, All_flat}
use Rattle.math.specs.declared.vector.V3.{V3}
use Rattle.parts.specs.declared.builder.Builder.{Builder}
use Rattle.parts.specs.declared.vert.Vert.{Vert}
use Rattle.parts.specs.Building.{Room, Pushes}
use Rattle.parts.specs.Written.{Sized, Written, Roomy}
use Rattle.parts.proofs.Pushing.{room_less}
use Rattle.parts.proofs.Building.{writes_both}
use Rattle.boxes.specs.Box.{half_size, box_face, box_tris, box_part, box_of}

-- ---- a face

-- four vertices
pub face_wide : (h : V3) (k : ℕ) → length (box_face h k) ≡ 4
unfolding box_face tab
face_wide h k = refl

-- six indices
pub tris_wide : (k : ℕ) → length (box_tris k) ≡ 6
unfolding box_tris
tris_wide k = refl

-- ---- a box

-- 24 vertices, 36 indices and no pairs
pub box_sized : (size : V3) → Sized (box_of size) (record { vertices = 24; indices = 36; pairs = 0 })
unfolding box_of box_part box_face box_tris flat tab
box_sized size = record { vertices = refl; indices = refl; pairs = refl }

face_within : (k : ℕ) → k < 6 → All (λ (i : ℕ). i < 24) (box_tris k)
unfolding box_tris
face_within k b = (omega arith, (omega arith, (omega arith, (omega arith, (omega arith, (omega arith, tt))))))

-- every index names a vertex
pub box_within : (size : V3) → All (λ (i : ℕ). i < length (box_of size).verts) (box_of size).indices
unfolding box_of box_part
box_within size =
    subst (λ (n : ℕ). All (λ (i : ℕ). i < n) (box_of size).indices) (box_sized size).vertices
    (All_flat (λ (i : ℕ). i < 24) (tab box_tris 6 0) (All_by (λ (l : List ℕ). All (λ (i : ℕ). i < 24) l) box_tris 6 face_within))

module _ (size : V3) {b : Builder} where
  module _ (R : Roomy (box_of size) 0 0 b) where
    pub box_room : Room (0 + 6 * 4) b
    box_room = room_less b.ctx (omega (arith, (box_sized size).vertices)) R.vertices

    pub tris_room : {k : ℕ} {vs : List Vert} {b' : Builder} → Pushes k vs b b' → 6 * 6 ≤ length b'.indices.now
    tris_room P = omega (arith, (box_sized size).indices, R.places, ap length P.indices)

  -- with h as half the size
  pub box_written : {h : V3} {b' : Builder} {l : List ℕ} → h ≡ half_size size → Pushes 0 (flat (tab (box_face h) 6 0)) b b' → l ≡ spliced b'.indices.now 0 (flat (tab box_tris 6 0))
      → Written (box_of size) 0 0 b (record b' { indices = set_vals l b'.indices })
  unfolding box_of box_part
  box_written {b' = b'} eh P el = writes_both (subst (λ (h : V3). Pushes 0 (flat (tab (box_face h) 6 0)) b b') eh P) el
