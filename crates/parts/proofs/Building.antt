-- What a builder's slices hold, written one part after the other.
use mathlib.Core.Path.{◌≡◌, refl, sym, ap, ◌∙◌, subst}
use mathlib.Core.List.{List, [], ◌++◌}
use Prim.Native.Nat.{ℕ, ◌+◌, ◌*◌, ◌≤◌, ◌<◌}
use native.Mathlib.Omega.{arith}
use lib.ListN.{length}
use Rattle.lists.specs.Lists.{flat}
use Rattle.lists.specs.Loops.{tab}
use Rattle.lists.proofs.Numbers.{piece_room}
use Rattle.lists.proofs.Pieces.{flat_more, length_pieces}
use borrow.Rule.Slice.Mut.{set_vals}
use Rattle.parts.specs.declared.builder.Builder.{Builder}
use Rattle.parts.specs.declared.vert.Vert.{Vert}
use Rattle.parts.specs.Building.{streams_in, Kept, Room, Pushes}
use Rattle.parts.specs.Written.{Written}
use Rattle.lists.specs.Parts.{spliced}
use Rattle.lists.proofs.Splices.{splice_start}
use Rattle.parts.specs.Part.{Part, no_part}
use Rattle.parts.specs.Pushed.{pushed, RoomFor}
use Rattle.parts.proofs.Pushing.{room_less, pushed_none, pushed_more, next_room}

-- ---- the same slices, however often they were written

-- to the same slices the same names are given
pub kept_same : {b : Builder} → Kept b b
kept_same = record { ctx = refl; positions = refl; normals = refl; textures = refl; indices = refl }

pub kept_on : {b b' b'' : Builder} → Kept b b' → Kept b' b'' → Kept b b''
kept_on K L = record {
  ctx = L.ctx ∙ K.ctx;
  positions = L.positions ∙ K.positions;
  normals = L.normals ∙ K.normals;
  textures = L.textures ∙ K.textures;
  indices = L.indices ∙ K.indices;
}

-- ---- vertices

pub pushes_none : (k : ℕ) (b : Builder) → Pushes k [] b b
pushes_none k b = record { kept = kept_same; streams = pushed_none b.ctx k (streams_in b); indices = refl }

module _ {k : ℕ} {vs : List Vert} {b b' : Builder} (P : Pushes k vs b b') where
  pub room_after : {m : ℕ} → k + length vs ≤ m → Room m b → Room m b'
  room_after {m} h R =
      let r : RoomFor b.ctx m (streams_in b') = next_room b.ctx k vs h R P.streams in
      rw P.kept.ctx r

  pub pushes_on : {us : List Vert} {b'' : Builder} {j : ℕ} → j ≡ k + length vs → Room (k + length vs + length us) b → Pushes j us b' b'' → Pushes k (vs ++ us) b b''
  pushes_on {us} {b''} e R Q = record {
    kept = kept_on P.kept Q.kept;
    streams = Q.streams ∙ (λ i. pushed (P.kept.ctx i) (e i) us (P.streams i)) ∙ pushed_more b.ctx k vs us (streams_in b) R;
    indices = Q.indices ∙ P.indices;
  }

-- the indices are as many as they were
pub places_after : {k : ℕ} {vs : List Vert} {b b' : Builder} → Pushes k vs b b' → {m : ℕ} → m ≤ length b.indices.now → m ≤ length b'.indices.now
places_after P h = omega (arith, ap length P.indices)

-- of n lists of w vertices, F 0, F 1, .., the first i are written from vertex k on; a is the next number
module _ {k n w i a : ℕ} (F : ℕ → List Vert) (wide : (t : ℕ) → length (F t) ≡ w) {b b' : Builder} (R : Room (k + n * w) b) (P : Pushes k (flat (tab F i 0)) b b') (h : i < n) (e : a ≡ k + i * w) where
  next : a ≡ k + length (flat (tab F i 0))
  next = omega (arith, e, length_pieces F w wide i)

  within : a + w ≤ k + n * w
  within = omega (arith, e, piece_room k n w i (k + n * w) (omega arith) h)

  pub list_room : Room (a + w) b'
  list_room = room_after P (omega (arith, next)) (room_less b.ctx within R)

  pub list_more : {b'' : Builder} → Pushes a (F i) b' b'' → Pushes k (flat (tab F (i + 1) 0)) b b''
  list_more {b''} Q =
      subst (λ (l : List Vert). Pushes k l b b'') (sym (flat_more F i)) (pushes_on P next (room_less b.ctx (omega (arith, wide i, next, within)) R) Q)

-- ---- parts

pub writes_none : (k a : ℕ) (b : Builder) → Written no_part k a b b
writes_none k a b = record { kept = kept_same; streams = pushed_none b.ctx k (streams_in b); places = splice_start b.indices.now a }

-- its vertices, and then its indices
pub writes_both : {p : Part} {k a : ℕ} {b b' : Builder} {i : List ℕ} → Pushes k p.verts b b' → i ≡ spliced b'.indices.now a p.indices → Written p k a b (record b' { indices = set_vals i b'.indices })
writes_both {p} {k} {a} {b} {b'} P e = record {
  kept = record { ctx = P.kept.ctx; positions = P.kept.positions; normals = P.kept.normals; textures = P.kept.textures; indices = P.kept.indices };
  streams = P.streams;
  places = e ∙ ap (λ (l : List ℕ). spliced l a p.indices) P.indices;
}
