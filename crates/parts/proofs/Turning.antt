-- Rows of words and of vertices written one after another, as a closure gives them.
use mathlib.Core.Path.{◌≡◌, refl, sym, ap, ◌∙◌, subst}
use mathlib.Core.List.{List, [], ◌∷◌, ◌++◌}
use Prim.Native.Nat.{ℕ, ◌+◌, ◌*◌, ◌≤◌, ◌<◌}
use native.Mathlib.Omega.{arith}
use lib.ListN.{length, get_or, take, length-append}
use lib.Seq.{length-take-le}
use Rattle.std.proofs.lemmas.List.{take_more}
use Rattle.lists.specs.Lists.{flat}
use Rattle.lists.specs.Loops.{tab}
use Rattle.lists.specs.Parts.{spliced}
use Rattle.lists.proofs.Pieces.{Uneven, flat_more, flat_ones, length_pieces, uneven_room, uneven_more}
use Rattle.parts.specs.declared.builder.Builder.{Builder}
use Rattle.parts.specs.declared.vert.Vert.{Vert}
use Rattle.parts.specs.Building.{Room, Pushes}
use Rattle.parts.specs.Turns.{Gives}
use Rattle.parts.proofs.Pushing.{room_less}
use Rattle.parts.proofs.Building.{pushes_none, room_after, pushes_on}

-- rows of w elements
pub wide_given : {A R : Type 0} {items : R → List A} {post : ℕ → R → Type 0} {n k : ℕ} {Room : ℕ → Type 0} (w : ℕ) (f : ℕ → List A) → ((t : ℕ) → length (f t) ≡ w)
    → ((i : ℕ) → i < n → (x : R) → post i x → items x ≡ f i) → Room (k + n * w) → Gives items post n k Room f
wide_given {n = n} {k} {Room} w f wide row room = record { row = row; room = rw (length_pieces f w wide n) room }

-- rows of one
pub ones_given : {A R : Type 0} {items : R → List A} {post : ℕ → R → Type 0} {n k : ℕ} {Room : ℕ → Type 0} (f : ℕ → A) → ((i : ℕ) → i < n → (x : R) → post i x → items x ≡ f i ∷ []) → Room (k + n)
    → Gives items post n k Room (λ j. f j ∷ [])
ones_given {n = n} {k} f row room =
    let e : k + n * 1 ≡ k + n = omega arith in
    wide_given 1 (λ j. f j ∷ []) (λ t. refl) row (rw e room)

-- row i is the next, and r its elements
module _ {A R : Type 0} {items : R → List A} {post : ℕ → R → Type 0} {n k i a : ℕ} {f : ℕ → List A} {l₀ l r : List A} {x : R} (G : Gives items post n k (λ j. j ≤ length l₀) f) (P : Uneven f n l₀ k i a l) (b : i < n) (p : post i x) (er : r ≡ items x) where
  is : r ≡ f i
  is = er ∙ G.row i b x p

  pub row_room : a + length r ≤ length l
  row_room = omega (arith, uneven_room f n i b, G.room, P.next, P.size, ap length is)

  pub row_more : {l' : List A} → l' ≡ spliced l a r → Uneven f n l₀ k (i + 1) (a + length r) l'
  row_more es = uneven_more (omega (arith, G.room)) P b (ap (λ (q : List A). a + length q) is) (es ∙ ap (spliced l a) is)

-- ---- vertices

-- the next of a list of them
module _ (k : ℕ) {i : ℕ} (vs : List Vert) {b b' : Builder} (R : Room (k + length vs) b) (h : i < length vs) (P : Pushes k (take i vs) b b') where
  taken : length (take i vs) ≡ i
  taken = length-take-le i vs (omega arith)

  pub run_room : Room (k + i + 1) b'
  run_room = room_after P (omega (arith, taken)) (room_less b.ctx (omega arith) R)

  pub run_more : (d : Vert) {b'' : Builder} → Pushes (k + i) (get_or vs i d ∷ []) b' b'' → Pushes k (take (i + 1) vs) b b''
  run_more d {b''} Q =
      let q : Pushes k (take i vs ++ get_or vs i d ∷ []) b b'' = pushes_on P (omega (arith, taken)) (room_less b.ctx (omega (arith, taken)) R) Q in
      rw (take_more vs i d h) q

-- of n rows the first i are written, and a is the next number
pub record Rowing (n : ℕ) (f : ℕ → List Vert) (k : ℕ) (b : Builder) (i a : ℕ) (b' : Builder) : Type 0 where
  pub so_far : i ≤ n
  pub next : a ≡ k + length (flat (tab f i 0))
  pub is : Pushes k (flat (tab f i 0)) b b'

module _ {n k : ℕ} {f : ℕ → List Vert} {b : Builder} where
  pub rowing_none : Rowing n f k b 0 k b
  unfolding tab flat
  rowing_none = record { so_far = omega arith; next = omega arith; is = pushes_none k b }

  module _ {R : Type 0} {items : R → List Vert} {post : ℕ → R → Type 0} {i a : ℕ} {b' : Builder} {r : List Vert} {x : R} (G : Gives items post n k (λ m. Room m b) f) (P : Rowing n f k b i a b') (h : i < n) (p : post i x) (er : r ≡ items x) where
    same : r ≡ f i
    same = er ∙ G.row i h x p

    pub rowing_fits : a + length r ≤ k + length (flat (tab f n 0))
    rowing_fits = omega (arith, uneven_room f n i h, ap length same, P.next)

    pub rowing_room : Room (a + length r) b'
    rowing_room = room_after P.is (omega (arith, P.next)) (room_less b.ctx rowing_fits G.room)

    pub rowing_more : {b'' : Builder} → Pushes a r b' b'' → Rowing n f k b (i + 1) (a + length r) b''
    rowing_more {b''} Q =
        let m = flat_more f i in
        let q : Pushes k (flat (tab f i 0) ++ r) b b'' = pushes_on P.is P.next (room_less b.ctx (omega (arith, P.next, rowing_fits)) G.room) Q in
        record {
          so_far = omega arith;
          next = omega (arith, P.next, ap length same, ap length m, length-append (flat (tab f i 0)) (f i));
          is = subst (λ (l : List Vert). Pushes k l b b'') (ap (λ (l : List Vert). flat (tab f i 0) ++ l) same ∙ sym m) q;
        }

pub rowing_ones : (k n : ℕ) (f : ℕ → Vert) (b : Builder) {b' : Builder} → Pushes k (flat (tab (λ j. f j ∷ []) n 0)) b b' → Pushes k (tab f n 0) b b'
rowing_ones k n f b {b'} P = subst (λ (l : List Vert). Pushes k l b b') (flat_ones f n 0) P
