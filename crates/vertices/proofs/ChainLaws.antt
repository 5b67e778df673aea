-- The chains: the search along one of them, and one vertex more.
use mathlib.Core.Path.{◌≡◌, refl, sym, ap, ◌∙◌, subst}
use mathlib.Core.Logic.{⊎_elim}
use mathlib.Core.Bool.{true, false}
use mathlib.Core.List.{List}
use Prim.Native.Nat.{ℕ, suc, ◌+◌, ◌≤◌, ◌<◌}
use native.Mathlib.Nat.{not-suc-le-zero}
use native.Mathlib.Numerals.{add-one}
use native.Mathlib.Omega.{arith}
use borrow.Author.Tests.{eqb-true, eqb-false, eq-eqb, ne_eqb}
use lib.Dec.{eqb}
use lib.ListN.{length, get_or, set, length-set}
use lib.Seq.{get_or-set_same, get_or-set_other}
use Rattle.std.specs.Prelude.{Option, Some, None, MatchOption, IsSomeAnd}
use Rattle.std.specs.Option.{option_map}
use Rattle.block.specs.declared.number.VertexNumber.{VertexNumber}
use Rattle.mesh.specs.Vertices.{Key, same_key}
use Rattle.lists.proofs.Tests.{cases}
use Rattle.lists.proofs.Numbers.{lt_of_ne}
use Rattle.lists.specs.Named.{named_by}
use Rattle.lists.proofs.Named.{named_none, named_next}
use Rattle.vertices.specs.declared.places.Widths.{Widths}
use Rattle.vertices.specs.declared.places.Chains.{Chains}
use Rattle.vertices.specs.Places.{Store, Laid}
use Rattle.vertices.specs.Hash.{bucket_of}
use Rattle.vertices.specs.Search.{known_by, seek, key_at, place_of, bucket_at, last_at, Chained}
use Rattle.vertices.specs.Adding.{linked}
use Rattle.vertices.proofs.Seek.{up_to, found, passed, seek_none, seek_le, seek_hit, seek_cong, seek_skip}
use Rattle.vertices.proofs.Keys.{other_by}

-- ---- the words of a chain

known_next : (n : ℕ) → known_by (n + 1) ≡ Some (record { 0 = n })
known_next n = ap (option_map (λ i. record { 0 = i })) (named_next n)

-- what the map of an Option gives
pub known_map : (word : ℕ) (o : Option ℕ) (r : Option VertexNumber) → o ≡ named_by word → MatchOption o (r ≡ None) (λ x. IsSomeAnd r (λ y. y ≡ record { 0 = x })) → r ≡ known_by word
known_map word None r e h = h ∙ ap (option_map (λ i. record { 0 = i })) e
known_map word (Some x) None e h = absurd h
known_map word (Some x) (Some y) e h = ap Some h ∙ ap (option_map (λ i. record { 0 = i })) e

-- ---- the vertex of a key, and the last in a bucket

module _ (w : Widths) (s : Store) (k : Key) where
  place_none : place_of w s 0 k ≡ None
  unfolding place_of
  place_none = seek_none (λ i. same_key k (key_at w s i))

  place_yes : (i : VertexNumber) → same_key k (key_at w s i.0) ≡ true → place_of w s (suc i.0) k ≡ Some i
  unfolding place_of
  place_yes i e = found (λ i. same_key k (key_at w s i)) i.0 e

  place_no : (i : ℕ) → same_key k (key_at w s i) ≡ false → place_of w s (suc i) k ≡ place_of w s i k
  unfolding place_of
  place_no i e = passed (λ i. same_key k (key_at w s i)) i e

  -- only the vertices in the key's bucket count
  place_skip : (t : Chains) (n : ℕ) → place_of w s n k ≡ place_of w s (up_to (last_at (bucket_at w t s) n (bucket_of t.buckets k))) k
  unfolding place_of last_at bucket_at
  place_skip t n =
      seek_skip (λ i. same_key k (key_at w s i)) (λ i. eqb (bucket_of t.buckets k) (bucket_of t.buckets (key_at w s i)))
      (λ i. other_by (bucket_of t.buckets) k (key_at w s i)) n

last_le : (f : ℕ → ℕ) (n b : ℕ) → up_to (last_at f n b) ≤ n
unfolding last_at
last_le f n b = seek_le (λ i. eqb b (f i)) n

last_is : (f : ℕ → ℕ) (n b : ℕ) (i : VertexNumber) → last_at f n b ≡ Some i → f i.0 ≡ b
unfolding last_at
last_is f n b i e = sym (eqb-true b _ (seek_hit (λ i. eqb b (f i)) n i e))

-- ---- the search

-- x is where the search along the chain of the key's bucket has come to: of the n vertices none that was left counts
pub record Met (w : Widths) (t : Chains) (s : Store) (k : Key) (n : ℕ) (x : Option VertexNumber) : Type 0 where
  pub le : up_to x ≤ n
  pub same : place_of w s n k ≡ place_of w s (up_to x) k
  pub here : (i : VertexNumber) → x ≡ Some i → bucket_at w t s i.0 ≡ bucket_of t.buckets k

module _ {w : Widths} {t : Chains} {s : Store} {k : Key} {n : ℕ} {x : Option VertexNumber} (M : Met w t s k n x) where
  -- the end of the chain
  pub met_end : x ≡ None → None ≡ place_of w s n k
  unfolding up_to
  met_end e = sym (M.same ∙ ap (λ (y : Option VertexNumber). place_of w s (up_to y) k) e ∙ place_none w s k)

  module _ (i : VertexNumber) (e : x ≡ Some i) where
    pub met_below : i.0 < n
    unfolding up_to
    met_below = subst (λ (y : Option VertexNumber). up_to y ≤ n) e M.le

    met_here : place_of w s n k ≡ place_of w s (suc i.0) k
    unfolding up_to
    met_here = M.same ∙ ap (λ (y : Option VertexNumber). place_of w s (up_to y) k) e

    pub met_found : same_key k (key_at w s i.0) ≡ true → Some i ≡ place_of w s n k
    met_found h = sym (met_here ∙ place_yes w s k i h)

module _ (w : Widths) (s : Store) (k : Key) (t : Chains) (m : List ℕ) (n : ℕ) (c : Chained t (bucket_at w t s) m n) where
  met_last : (j : ℕ) (x : Option VertexNumber) → x ≡ last_at (bucket_at w t s) j (bucket_of t.buckets k) → Met w t s k j x
  met_last j x e =
      let b = bucket_of t.buckets k in
      rw e (record { le = last_le (bucket_at w t s) j b; same = place_skip w s k t j; here = last_is (bucket_at w t s) j b })

  pub met_start : (x : Option VertexNumber) (b : ℕ) → x ≡ known_by (get_or m (t.heads + b) 0) → b ≡ bucket_of t.buckets k → b < t.buckets → Met w t s k n x
  met_start x b e q h = met_last n x (e ∙ c.heads b h ∙ ap (last_at (bucket_at w t s) n) q)

  pub met_step : (x y : Option VertexNumber) (i : VertexNumber) → y ≡ known_by (get_or m (t.nexts + i.0) 0) → Met w t s k n x → x ≡ Some i → same_key k (key_at w s i.0) ≡ false
      → (up_to y < up_to x) × Met w t s k n y
  unfolding up_to
  met_step x y i q r h e =
      let l : i.0 < n = met_below r i h in
      let g = met_last i.0 y (q ∙ c.nexts i.0 l ∙ ap (last_at (bucket_at w t s) i.0) (r.here i h)) in
      let b : up_to y ≤ i.0 = g.le in
      (rw h (omega arith), record { le = omega arith; same = met_here r i h ∙ place_no w s k i.0 e ∙ g.same; here = g.here })

-- ---- one vertex more

-- vertex n in bucket b; those before it are in the buckets they were in
module _ (f g : ℕ → ℕ) (n b : ℕ) (old : (i : ℕ) → i < n → g i ≡ f i) (new : g n ≡ b) where
  last_old : (j u : ℕ) → j ≤ n → last_at g j u ≡ last_at f j u
  unfolding last_at
  last_old j u h = seek_cong (λ i. eqb u (g i)) (λ i. eqb u (f i)) j (λ i l. ap (eqb u) (old i (omega arith)))

  last_new : last_at g (n + 1) b ≡ Some (record { 0 = n })
  unfolding last_at seek
  last_new = rw (add-one, new, eq-eqb b b refl)

  last_other : (u : ℕ) → (u ≡ b → ⊥) → last_at g (n + 1) u ≡ last_at g n u
  unfolding last_at seek
  last_other u d = rw (add-one, new, ne_eqb u b d)

  pub chain_grow : (t : Chains) (m : List ℕ) → Chained t f m n → Laid t (length m) (n + 1) → b < t.buckets → Chained t g (linked t m n b) (n + 1)
  unfolding linked
  chain_grow t m c L hb = record { heads = heads; nexts = nexts }
    where
      was : ℕ
      was = get_or m (t.heads + b) 0

      m1 : List ℕ
      m1 = set m (t.nexts + n) was

      heads : (u : ℕ) → u < t.buckets → known_by (get_or (set m1 (t.heads + b) (n + 1)) (t.heads + u) 0) ≡ last_at g (n + 1) u
      heads u hu =
          ⊎_elim
          (λ e. let q : u ≡ b = eqb-true u b e in
          rw q (ap known_by (get_or-set_same m1 (t.heads + b) (n + 1) 0 (rw length-set (omega (arith, L)))) ∙ known_next n ∙ sym last_new))
          (λ e. let d : u ≡ b → ⊥ = eqb-false u b e in
          ap known_by (get_or-set_other m1 (t.heads + b) (t.heads + u) (n + 1) 0 (λ q. d (omega arith))
          ∙ get_or-set_other m (t.nexts + n) (t.heads + u) was 0 (λ q. omega (arith, L)))
          ∙ c.heads u hu
          ∙ sym (last_other u d ∙ last_old n u (omega arith)))
          (cases (eqb u b))

      nexts : (i : ℕ) → i < n + 1 → known_by (get_or (set m1 (t.heads + b) (n + 1)) (t.nexts + i) 0) ≡ last_at g i (g i)
      nexts i hi =
          ap known_by (get_or-set_other m1 (t.heads + b) (t.nexts + i) (n + 1) 0 (λ q. omega (arith, L)))
          ∙ ⊎_elim
          (λ e. let q : i ≡ n = eqb-true i n e in
          rw q (ap known_by (get_or-set_same m (t.nexts + n) was 0 (omega (arith, L))) ∙ c.heads b hb ∙ sym (ap (last_at g n) new ∙ last_old n b (omega arith))))
          (λ e. let d : i ≡ n → ⊥ = eqb-false i n e in
          let l : i < n = lt_of_ne i n hi d in
          ap known_by (get_or-set_other m (t.nexts + n) (t.nexts + i) was 0 (λ q. d (omega arith)))
          ∙ c.nexts i l
          ∙ sym (ap (last_at g i) (old i l) ∙ last_old i (f i) (omega arith)))
          (cases (eqb i n))

-- the heads of no vertex are zeros
pub chained_none : (t : Chains) (f : ℕ → ℕ) (m : List ℕ) → ((b : ℕ) → b < t.buckets → get_or m (t.heads + b) 0 ≡ 0) → Chained t f m 0
unfolding last_at seek
chained_none t f m h = record { heads = λ b l. ap known_by (h b l) ∙ ap (option_map (λ i. record { 0 = i })) named_none; nexts = λ i e. absurd (not-suc-le-zero e) }

-- words below the heads may be written
pub chained_set : (t : Chains) (f : ℕ → ℕ) (m : List ℕ) (n i a : ℕ) → Chained t f m n → i < t.heads → t.heads ≤ t.nexts → Chained t f (set m i a) n
chained_set t f m n i a c h l =
    record {
      heads = λ v b. ap known_by (get_or-set_other m i (t.heads + v) a 0 (λ q. omega arith)) ∙ c.heads v b;
      nexts = λ j b. ap known_by (get_or-set_other m i (t.nexts + j) a 0 (λ q. omega arith)) ∙ c.nexts j b;
    }
