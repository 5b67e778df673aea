-- FORMAT 6.4: the corners of a primitive one by one, and its stretch primitive by primitive. Assumes nothing.
use Prim.Native.Nat.{ℕ, zero, suc, ◌+◌, ◌-◌, ◌*◌, ◌%◌, ◌≤◌, ◌<◌}
use mathlib.Core.Path.{◌≡◌, refl, sym, ap, ◌∙◌}
use mathlib.Core.Bool.{Bool, true, false, cond}
use mathlib.Core.List.{List, [], ◌∷◌, ◌++◌}
use native.Mathlib.Omega.{arith}
use native.Mathlib.Numerals.{add-one}
use borrow.Author.Tests.{eqb-true, eqb-false}
use lib.Dec.{eqb, ltb}
use lib.ListN.{length, get_or}
use Rattle.std.specs.List.{filter, list_all, range_with_len}
use Rattle.lists.specs.Loops.{tab, All}
use Rattle.lists.specs.Lists.{flat, all_below}
use Rattle.lists.proofs.Lists.{get_or_map_lt}
use Rattle.lists.proofs.Pieces.{flat_go, flat_end}
use Rattle.block.specs.declared.topology.Topology.{Topology}
use Rattle.block.specs.declared.topology.Topology.TheVariants.{Triangles, Fans, Strips, Quads}
use Rattle.lists.proofs.Below.{below_from}
use Rattle.primitives.specs.Primitives.{primitive_count, places_of, primitive_of}
use Rattle.primitives.specs.Kept.{width_of, piece_of, kept_by}
use Rattle.primitives.proofs.Closed.{places_long, primitive_long}

-- ---- places

threes : (k i : ℕ) → i < 3 → 3 * k + i ≡ get_or (places_of Triangles k) i 0
unfolding places_of
threes k zero h = omega arith
threes k (suc zero) h = omega arith
threes k (suc (suc zero)) h = omega arith
threes k (suc (suc (suc i))) h = absurd (omega arith)

fours : (k i : ℕ) → i < 4 → 4 * k + i ≡ get_or (places_of Quads k) i 0
unfolding places_of
fours k zero h = omega arith
fours k (suc zero) h = omega arith
fours k (suc (suc zero)) h = omega arith
fours k (suc (suc (suc zero))) h = omega arith
fours k (suc (suc (suc (suc i)))) h = absurd (omega arith)

module _ (g : Topology) (k i : ℕ) (h : i < width_of g) where
  pub place_three : g ≡ Triangles → 3 * k + i ≡ get_or (places_of g k) i 0
  unfolding width_of
  place_three e = rw e (threes k i (rw e at h))

  pub place_four : g ≡ Quads → 4 * k + i ≡ get_or (places_of g k) i 0
  unfolding width_of
  place_four e = rw e (fours k i (rw e at h))

pub fan_first : (k i : ℕ) → i ≡ 0 → 0 ≡ get_or (places_of Fans k) i 0
unfolding places_of
fan_first k i e = rw e

pub fan_next : (k i : ℕ) → i < 3 → 0 < i → k + i ≡ get_or (places_of Fans k) i 0
unfolding places_of
fan_next k zero h l = absurd (omega arith)
fan_next k (suc zero) h l = refl
fan_next k (suc (suc zero)) h l = refl
fan_next k (suc (suc (suc i))) h l = absurd (omega arith)

module _ (k : ℕ) where
  abbrev places : Bool → List ℕ
  places b = cond b ((k + 1) ∷ k ∷ (k + 2) ∷ []) (k ∷ (k + 1) ∷ (k + 2) ∷ [])

  -- an odd triangle begins with its second entry
  pub strip_turn : (i : ℕ) → i < 2 → k + (k + i) % 2 ≡ get_or (places_of Strips k) i 0
  unfolding places_of
  strip_turn i h = go i h (eqb (k % 2) 1) refl
    where
      go : (i : ℕ) → i < 2 → (b : Bool) → eqb (k % 2) 1 ≡ b → k + (k + i) % 2 ≡ get_or (places b) i 0
      go zero h true e = let q = eqb-true (k % 2) 1 e in omega arith
      go zero h false e = let q = eqb-false (k % 2) 1 e in omega arith
      go (suc zero) h true e = let q = eqb-true (k % 2) 1 e in omega arith
      go (suc zero) h false e = let q = eqb-false (k % 2) 1 e in omega arith
      go (suc (suc i)) h b e = absurd (omega arith)

  pub strip_third : (i : ℕ) → i < 3 → 2 ≤ i → k + i ≡ get_or (places_of Strips k) i 0
  unfolding places_of
  strip_third i h l = let e : i ≡ 2 = omega arith in rw e (go (eqb (k % 2) 1))
    where
      go : (b : Bool) → k + 2 ≡ get_or (places b) 2 0
      go true = refl
      go false = refl

-- ---- primitives

-- no more than entries
pub count_most : (g : Topology) (n : ℕ) → primitive_count g n ≤ n
unfolding primitive_count
count_most Triangles n = omega arith
count_most Fans n = omega arith
count_most Strips n = omega arith
count_most Quads n = omega arith

-- each of its entries stands in the stretch
pub places_within : (g : Topology) (n k : ℕ) → k < primitive_count g n → All (λ (i : ℕ). i < n) (places_of g k)
unfolding primitive_count places_of
places_within Triangles n k h = (omega arith, (omega arith, (omega arith, tt)))
places_within Fans n k h = (omega arith, (omega arith, (omega arith, tt)))
places_within Strips n k h = go (eqb (k % 2) 1)
  where
    go : (b : Bool) → All (λ (i : ℕ). i < n) (cond b ((k + 1) ∷ k ∷ (k + 2) ∷ []) (k ∷ (k + 1) ∷ (k + 2) ∷ []))
    go true = (omega arith, (omega arith, (omega arith, tt)))
    go false = (omega arith, (omega arith, (omega arith, tt)))
places_within Quads n k h = (omega arith, (omega arith, (omega arith, (omega arith, tt))))

-- the entry of corner i
pub primitive_at : (g : Topology) (es : List ℕ) (k i : ℕ) → i < width_of g → get_or (primitive_of g es k) i 0 ≡ get_or es (get_or (places_of g k) i 0) 0
unfolding primitive_of
primitive_at g es k i h = get_or_map_lt (λ (j : ℕ). get_or es j 0) (places_of g k) i 0 0 (let l = places_long g k in omega arith)

-- as it is read
pub entry_at : (g : Topology) (es : List ℕ) (k i : ℕ) {p w : ℕ} → i < width_of g → p ≡ get_or (places_of g k) i 0 → w ≡ get_or es p 0 → w ≡ get_or (primitive_of g es k) i 0
entry_at g es k i h ep ew = ew ∙ ap (λ (j : ℕ). get_or es j 0) ep ∙ sym (primitive_at g es k i h)

-- as its corners are read one by one
pub present_each : (p : ℕ) (g : Topology) (es : List ℕ) (k : ℕ) → list_all (λ i. ltb (get_or es (get_or (places_of g k) i 0) 0) p) (range_with_len 0 (width_of g)) ≡ all_below p (primitive_of g es k)
present_each p g es k = rw (← (primitive_long g es k)) (below_from p (primitive_of g es k) (λ i. ltb (get_or es (get_or (places_of g k) i 0) 0) p) 0 corner)
  where
    corner : (i : ℕ) → i < length (primitive_of g es k) → ltb (get_or es (get_or (places_of g k) (0 + i) 0) 0) p ≡ ltb (get_or (primitive_of g es k) i 0) p
    corner i h =
        let e : 0 + i ≡ i = omega arith in
        let l = primitive_long g es k in
        rw (e, primitive_at g es k i (omega arith))

module _ {A : Type 0} (a : ℕ → A) (points : ℕ) (g : Topology) (es : List ℕ) where
  -- what primitive k and those after it give
  unfoldable pub kept_left : ℕ → List A
  kept_left k = flat (tab (piece_of a points g es) (primitive_count g (length es) - k) k)

  pub left_first : kept_left 0 ≡ kept_by a points g es
  unfolding kept_left kept_by
  left_first = let e : primitive_count g (length es) - 0 ≡ primitive_count g (length es) = omega arith in rw e

  module _ (k : ℕ) (h : k < primitive_count g (length es)) where
    left_turn : kept_left k ≡ piece_of a points g es k ++ kept_left (k + 1)
    unfolding kept_left
    left_turn = flat_go (piece_of a points g es) (primitive_count g (length es)) k h

    pub left_kept : all_below points (primitive_of g es k) ≡ true → kept_left k ≡ a k ∷ kept_left (k + 1)
    unfolding piece_of
    left_kept e = left_turn ∙ rw e

    pub left_lost : all_below points (primitive_of g es k) ≡ false → kept_left k ≡ kept_left (k + 1)
    unfolding piece_of
    left_lost e = left_turn ∙ rw e

  pub left_none : (k : ℕ) → primitive_count g (length es) ≤ k → kept_left k ≡ []
  unfolding kept_left
  left_none k h = flat_end (piece_of a points g es) (primitive_count g (length es)) k h

  -- as many as the primitives that are kept
  kept_from : (n i : ℕ) → length (filter (λ k. all_below points (primitive_of g es k)) (range_with_len i n)) ≡ length (flat (tab (piece_of a points g es) n i))
  unfolding tab flat piece_of
  kept_from zero i = refl
  kept_from (suc n) i = turn (all_below points (primitive_of g es i)) _ _ (ap (λ (j : ℕ). length (filter (λ k. all_below points (primitive_of g es k)) (range_with_len j n))) (add-one i) ∙ kept_from n (suc i))
    where
      turn : (b : Bool) (ks : List ℕ) (made : List A) → length ks ≡ length made → length (cond b (i ∷ ks) ks) ≡ length (cond b (a i ∷ []) [] ++ made)
      turn true ks made h = ap suc h
      turn false ks made h = h

  pub count_kept : (n : ℕ) → n ≡ primitive_count g (length es) → length (filter (λ k. all_below points (primitive_of g es k)) (range_with_len 0 n)) ≡ length (kept_by a points g es)
  unfolding kept_by
  count_kept n e = rw e (kept_from (primitive_count g (length es)) 0)
