-- Faces listed one after another: none, one more, and all.
use mathlib.Core.Path.{◌≡◌, refl, sym, ap, ◌∙◌, subst}
use mathlib.Core.Bool.{Bool, true, false}
use mathlib.Core.List.{List}
use Prim.Native.Nat.{ℕ, zero, suc, ◌+◌, ◌-◌, ◌≤◌, ◌<◌}
use native.Mathlib.Nat.{not-suc-le-zero}
use native.Mathlib.Numerals.{add-one}
use native.Mathlib.Omega.{arith}
use borrow.Author.Count.{below_more}
use borrow.Author.Tests.{ltb-true, ltb-false}
use lib.Dec.{ltb}
use lib.ListN.{length, get_or, set}
use Rattle.tables.specs.declared.layout.Plan.{Plan}
use Rattle.tables.specs.Layout.{Room}
use Rattle.tables.specs.Soups.{point_in, start_in, place_in}
use Rattle.tables.specs.Listed.{Use, no_use, no_listing, Listing, uses_at, Beside, Listed}
use Rattle.lists.proofs.Keep.{set_hit}
use Rattle.lists.proofs.Splices.{set_is}
use Rattle.tables.proofs.Besides.{beside_starts}
use Rattle.faceset.specs.Adding.{Fits, face_added, ListedTo}
use Rattle.faceset.proofs.Writing.{start_old, number_old, point_old, place_old, start_new, number_new, point_new, place_new}

-- ---- one face more

module _ {w : List ℕ} {t : Plan} {ls : List Listing} {g c : ℕ} (M : ListedTo w t ls g c) where
  start_below : (k j : ℕ) → j + k ≡ g → start_in w t j ≤ c
  start_below zero j h =
      let e : j ≡ g = omega arith in
      rw e (omega (arith, M.last))
  start_below (suc k) j h = omega (arith, M.starts j (omega arith), start_below k (suc j) (omega arith))

  -- the corners of face j stand below c
  corner_below : (j i : ℕ) → j < g → i < length (uses_at ls j) → start_in w t j + i < c
  corner_below j i h b = let q : suc j + (g - suc j) ≡ g = omega arith in omega (arith, M.starts j h, start_below (g - suc j) (suc j) q)

module _ {t : Plan} {j c number : ℕ} {us : List Use} {w : List ℕ} {ls : List Listing} (M : ListedTo w t ls j c) (F : Fits (length w) t j c (length us))
    (here : get_or ls j no_listing ≡ record { number = number; uses = us }) (points : (k : ℕ) → k < length us → (get_or us k no_use).point < t.spots) where
  abbrev w' : List ℕ
  w' = face_added t j c number us w

  start_here : start_in w' t j ≡ c
  start_here = start_old t j c number us w F j (omega arith) ∙ M.last

  uses_here : uses_at ls j ≡ us
  uses_here = ap (λ (l : Listing). l.uses) here

  count_here : length (uses_at ls j) ≡ length us
  count_here = ap length uses_here

  point_within : (k : ℕ) → k < c + length us → point_in w' t k < t.spots
  point_within k h = go (ltb k c) refl
    where
      go : (b : Bool) → ltb k c ≡ b → point_in w' t k < t.spots
      go true q = let l = ltb-true k c q in rw (point_old t j c number us w F k l) (M.within k l)
      go false q =
          let l = ltb-false k c q in
          let b : k - c < length us = omega arith in
          let e : c + (k - c) ≡ k = omega arith in
          subst (λ (m : ℕ). m < t.spots) (sym (point_new t j c number us w F (k - c) b) ∙ ap (point_in w' t) e) (points (k - c) b)

  -- a table of the corners: as it is read, in w and in w', and the part of a use that it holds
  values_more : (read read' : ℕ → ℕ) (value : Use → ℕ)
      → ((k : ℕ) → k < c → read' k ≡ read k)
      → ((i : ℕ) → i < length us → read' (c + i) ≡ value (get_or us i no_use))
      → ((k i : ℕ) → k < j → i < length (uses_at ls k) → read (start_in w t k + i) ≡ value (get_or (uses_at ls k) i no_use))
      → (k i : ℕ) → k < j + 1 → i < length (uses_at ls k) → read' (start_in w' t k + i) ≡ value (get_or (uses_at ls k) i no_use)
  values_more read read' value old new all k i h b =
      below_more (λ (k : ℕ). (i : ℕ) → i < length (uses_at ls k) → read' (start_in w' t k + i) ≡ value (get_or (uses_at ls k) i no_use)) j
      (λ k h i b. ap (λ (a : ℕ). read' (a + i)) (start_old t j c number us w F k (omega arith)) ∙ old (start_in w t k + i) (corner_below M k i h b) ∙ all k i h b)
      (λ i b.
      let q : i < length us = omega (arith, count_here) in
      ap (λ (a : ℕ). read' (a + i)) start_here ∙ new i q ∙ sym (ap (λ (l : List Use). value (get_or l i no_use)) uses_here)) k h i b

  pub listed_more : ListedTo w' t ls (j + 1) (c + length us)
  listed_more = record {
    first = start_old t j c number us w F 0 (omega arith) ∙ M.first;
    starts = below_more _ j
        (λ k h. start_old t j c number us w F (suc k) (omega arith) ∙ M.starts k h ∙ ap (λ (a : ℕ). a + length (uses_at ls k)) (sym (start_old t j c number us w F k (omega arith))))
        (start_new t j c number us w F ∙ omega (arith, start_here, count_here));
    last = rw add-one (start_new t j c number us w F);
    within = point_within;
    numbers = below_more _ j (λ k h. number_old t j c number us w F k h ∙ M.numbers k h) (number_new t j c number us w F ∙ sym (ap (λ (l : Listing). l.number) here));
    points = values_more (point_in w t) (point_in w' t) (λ (u : Use). u.point) (point_old t j c number us w F) (point_new t j c number us w F) M.points;
    places = values_more (place_in w t) (place_in w' t) (λ (u : Use). u.place) (place_old t j c number us w F) (place_new t j c number us w F) M.places;
  }

-- ---- none, and all

module _ (w : List ℕ) {t : Plan} (R : Room (length w) t) where
  pub first_beside : Beside t w (set w t.starts 0)
  first_beside = beside_starts w t.starts _ (set_is w t.starts 0 (omega arith)) refl (omega arith) (omega arith) (omega arith)

  first_start : start_in (set w t.starts 0) t 0 ≡ 0
  unfolding start_in
  first_start = set_hit w t.starts 0 (t.starts + 0) (omega arith) (omega arith)

  pub listed_none : {ls : List Listing} → ListedTo (set w t.starts 0) t ls 0 0
  listed_none = record {
    first = first_start;
    starts = λ j h. absurd (not-suc-le-zero h);
    last = first_start;
    within = λ k h. absurd (not-suc-le-zero h);
    numbers = λ j h. absurd (not-suc-le-zero h);
    points = λ j i h b. absurd (not-suc-le-zero h);
    places = λ j i h b. absurd (not-suc-le-zero h);
  }

pub listed_all : {w : List ℕ} {t : Plan} {ls : List Listing} {g c : ℕ} → Room (length w) t → length ls ≡ t.faces → g ≡ t.faces → c ≡ t.count → ListedTo w t ls g c
    → Listed w t ls
listed_all {w} {t} {ls} R n eg ec L =
    let M : ListedTo w t ls t.faces t.count = rw (eg, ec) at L in
    record {
      room = R;
      faces = n;
      first = M.first;
      starts = M.starts;
      last = M.last;
      within = M.within;
      numbers = M.numbers;
      points = M.points;
      places = M.places;
    }
