-- A pass over the stretches: one primitive more, one stretch more, and all of them.
use mathlib.Core.Path.{◌≡◌, refl, sym, ap, ◌∙◌}
use mathlib.Core.Bool.{Bool, true, false, cond}
use mathlib.Core.List.{List, [], ◌∷◌, ◌++◌}
use Prim.Native.Nat.{ℕ, suc, ◌+◌, ◌*◌, ◌/◌, ◌≤◌, ◌<◌}
use native.Mathlib.Nat.{mul-zero, mul-suc, mul-le-mul}
use native.Mathlib.Numerals.{add-one}
use native.Mathlib.Omega.{arith}
use lib.ListN.{length, get_or, set, drop, length-drop}
use Rattle.bits.specs.Bits.{entries}
use Rattle.bits.proofs.Entries.{entries_length}
use Rattle.block.specs.declared.topology.Topology.{Topology}
use Rattle.lists.specs.Lists.{all_below}
use Rattle.block.specs.Runs.{run_of, next_start}
use Rattle.lists.proofs.Lists.{head_left}
use Rattle.primitives.specs.Primitives.{primitive_count, primitive_of}
use Rattle.primitives.specs.Kept.{width_of}
use Rattle.primitives.specs.Stretches.{stretches_left, StretchPart}
use Rattle.primitives.proofs.Counting.{kept_left, left_first, left_kept, left_lost, left_none}
use Rattle.primitives.proofs.Meeting.{stretches_step, kept_start, kept_first, kept_end}
use Rattle.tables.specs.declared.layout.Plan.{Plan}
use Rattle.tables.specs.Listed.{Use, no_use, no_listing, Beside}
use Rattle.tables.proofs.Besides.{beside_all, beside_then}
use Rattle.faceset.specs.Adding as adding
use Rattle.faceset.specs.declared.listing.Progress.{Progress}
use Rattle.faceset.specs.Adding.{face_added, after_face, words_after, progress_after}
use Rattle.faceset.proofs.Writing.{face_beside}
use Rattle.faceset.proofs.Adding.{listed_none, listed_more, listed_all}
use Rattle.primitiveset.specs.Listings.{uses_of, primitive_uses, listing_of, primitive_listings}
use Rattle.primitiveset.specs.Passing.{Planned, Fits, Underway, uses_from, Passed, Turned, PrimitivesListed}
use Rattle.primitiveset.proofs.Faces.{uses_long, uses_below, length_uses, length_listings, listing_at}

module _ {points : ℕ} {g : Topology} {bs w : List ℕ} {t : Plan} (L : Planned points g bs (length w) t) where
  pub planned_beside : {w' : List ℕ} → Beside t w w' → Planned points g bs (length w') t
  planned_beside B = rw B.len L

  -- ---- one face more

  module _ {p : Progress} {us : List Use} {rest : List (List Use)} (U : Underway points g (entries bs) w t p (us ∷ rest)) where
    next_face : p.faces < t.faces
    next_face = omega (arith, ap length U.left, length-drop p.faces (primitive_uses points g (entries bs)), length_uses points g (entries bs), L.faces)

    next_corners : p.corner.0 + width_of g ≤ t.count
    next_corners =
        let f = next_face in
        let m : width_of g * suc p.faces ≤ width_of g * t.faces = mul-le-mul {n₂ = width_of g} {m₂ = t.faces} (omega arith) (omega arith) in
        let s = mul-suc (width_of g) p.faces in
        let e : t.count ≡ width_of g * t.faces = L.count ∙ ap (λ (n : ℕ). width_of g * n) (sym L.faces) in
        omega (arith, U.corners)

    module _ (long : length us ≡ width_of g) (below : (i : ℕ) → i < length us → (get_or us i no_use).point < points) where
      face_fits : adding.Fits (length w) t p.faces p.corner.0 (length us)
      face_fits = record { room = L.room; face = next_face; corners = omega (arith, next_corners) }

      split : (get_or (primitive_uses points g (entries bs)) p.faces [] ≡ us) × (drop (suc p.faces) (primitive_uses points g (entries bs)) ≡ rest)
      split = head_left (primitive_uses points g (entries bs)) p.faces us rest [] U.left

      here : get_or (primitive_listings points g (entries bs)) p.faces no_listing ≡ listing_of p.faces us
      here = listing_at points g (entries bs) p.faces (omega (arith, next_face, L.faces)) ∙ ap (listing_of p.faces) split.0

      one_more : Underway points g (entries bs) (face_added t p.faces p.corner.0 p.faces us w) t
          (after_face p (width_of g)) rest
      one_more = record {
        faces = omega (arith, next_face);
        corners = let s = mul-suc (width_of g) p.faces in rw add-one (omega (arith, U.corners));
        left = rw add-one split.1;
        made = rw long at (listed_more {number = p.faces} {us = us} U.made face_fits here (λ i b. rw L.spots (below i b)));
      }

      one_beside : Beside t w (face_added t p.faces p.corner.0 p.faces us w)
      one_beside = face_beside t p.faces p.corner.0 p.faces us w face_fits

-- ---- a stretch at entry s, as far as it has come: r is its part, n where the next starts, and k the next primitive

abbrev pub uses_left : ℕ → Topology → List ℕ → ℕ → List ℕ → ℕ → ℕ → List (List Use)
uses_left points g bs s r n k = kept_left (uses_of g (run_of s (entries r))) points g (entries r) k ++ uses_from points g (entries bs) n

pub record Along (points : ℕ) (g : Topology) (bs w₀ w : List ℕ) (t : Plan) (s : ℕ) (r : List ℕ) (n k : ℕ) (p : Progress) : Type 0 where
  pub planned : Planned points g bs (length w) t
  pub beside : Beside t w₀ w
  pub underway : Underway points g (entries bs) w t p (uses_left points g bs s r n k)

left_as : {points : ℕ} {g : Topology} {ws w : List ℕ} {t : Plan} {p : Progress} {l m : List (List Use)} → l ≡ m → Underway points g ws w t p l → Underway points g ws w t p m
left_as e U = record { faces = U.faces; corners = U.corners; left = U.left ∙ e; made = U.made }

module _ {points : ℕ} {g : Topology} {bs w : List ℕ} {t : Plan} where
  pub stretch_start : {s : ℕ} {r : List ℕ} {n : ℕ} {p : Progress} → Planned points g bs (length w) t → Passed points g bs w t s p → s < length bs / 4 → StretchPart g bs s r → n ≡ next_start s r
      → Along points g bs w w t s r n 0 p
  stretch_start {s} {r} {n} {p} L U h P q = record {
    planned = L;
    beside = beside_all;
    underway = left_as (kept_first (uses_of g) points g (stretches_step bs s r n q h g P)
        ∙ ap (λ (l : List (List Use)). l ++ uses_from points g (entries bs) n) (sym (left_first (uses_of g (run_of s (entries r))) points g (entries r)))) U;
  }

module _ {points : ℕ} {g : Topology} {bs w₀ w : List ℕ} {t : Plan} {s : ℕ} {r : List ℕ} {n k : ℕ} {p : Progress} (A : Along points g bs w₀ w t s r n k p)
    (h : k < primitive_count g (length (entries r))) where
  abbrev a : ℕ → List Use
  a = uses_of g (run_of s (entries r))

  left_one : all_below points (primitive_of g (entries r) k) ≡ true → Underway points g (entries bs) w t p (a k ∷ uses_left points g bs s r n (k + 1))
  left_one e = left_as (ap (λ (l : List (List Use)). l ++ uses_from points g (entries bs) n) (left_kept a points g (entries r) k h e)) A.underway

  pub along_fits : StretchPart g bs s r → s < length bs / 4 → Fits points g (length w) t s (entries r) k p
  along_fits P l =
      let e = entries_length r in
      let b = P.within in
      record {
        room = A.planned.room;
        spots = A.planned.spots;
        there = h;
        places = omega (arith, A.planned.few);
        face = λ e. next_face A.planned (left_one e);
        corners = λ e. next_corners A.planned (left_one e);
      }

  along_kept : all_below points (primitive_of g (entries r) k) ≡ true → Along points g bs w₀ (face_added t p.faces p.corner.0 p.faces (a k) w) t s r n (k + 1) (after_face p (width_of g))
  along_kept e =
      let U = left_one e in
      let l = uses_long g (run_of s (entries r)) k in
      let b = uses_below g (run_of s (entries r)) k points e in
      let B = one_beside A.planned U l b in
      record {
        planned = planned_beside A.planned B;
        beside = beside_then A.beside B;
        underway = one_more A.planned U l b;
      }

  along_lost : all_below points (primitive_of g (entries r) k) ≡ false → Along points g bs w₀ w t s r n (k + 1) p
  along_lost e = record {
    planned = A.planned;
    beside = A.beside;
    underway = left_as (ap (λ (l : List (List Use)). l ++ uses_from points g (entries bs) n) (left_lost a points g (entries r) k h e)) A.underway;
  }

  pub along_more : {w' : List ℕ} {p' : Progress} → w' ≡ words_after (all_below points (primitive_of g (entries r) k)) t p p.faces (a k) w
      → p' ≡ progress_after (all_below points (primitive_of g (entries r) k)) p (width_of g) → Along points g bs w₀ w' t s r n (k + 1) p'
  unfolding words_after progress_after
  along_more ew ep = rw (ew, ep) (go (all_below points (primitive_of g (entries r) k)) along_kept along_lost)
    where
      go : (b : Bool) → (b ≡ true → Along points g bs w₀ (face_added t p.faces p.corner.0 p.faces (a k) w) t s r n (k + 1) (after_face p (width_of g)))
          → (b ≡ false → Along points g bs w₀ w t s r n (k + 1) p)
          → Along points g bs w₀ (cond b (face_added t p.faces p.corner.0 p.faces (a k) w) w) t s r n (k + 1) (cond b (after_face p (width_of g)) p)
      go true x y = x refl
      go false x y = y refl

pub stretch_end : {points : ℕ} {g : Topology} {bs w₀ w : List ℕ} {t : Plan} {s : ℕ} {r : List ℕ} {n k : ℕ} {p : Progress} → Along points g bs w₀ w t s r n k p
    → primitive_count g (length (entries r)) ≤ k → Turned points g bs w₀ w t n p
stretch_end {points} {g} {bs} {s = s} {r = r} {n = n} {k = k} A h = record {
  beside = A.beside;
  passed = left_as (ap (λ (x : List (List Use)). x ++ uses_from points g (entries bs) n) (left_none (uses_of g (run_of s (entries r))) points g (entries r) k h)) A.underway;
}

-- ---- all stretches

module _ {points : ℕ} {g : Topology} {bs : List ℕ} (w : List ℕ) {t : Plan} (L : Planned points g bs (length w) t) where
  pub pass_start : Passed points g bs (set w t.starts 0) t 0 (record { faces = 0; corner = record { 0 = 0 } })
  unfolding primitive_uses
  pass_start = record {
    faces = omega arith;
    corners = sym (mul-zero (width_of g));
    left = sym (kept_start (uses_of g) points g (entries bs));
    made = listed_none w L.room;
  }

  pub pass_end : {w' : List ℕ} (s : ℕ) {p : Progress} → Beside t w w' → Passed points g bs w' t s p → stretches_left g (entries bs) s ≡ [] → PrimitivesListed points g bs t w w'
  pass_end {w'} s {p} B U h =
      let n : length (primitive_listings points g (entries bs)) ≡ t.faces = length_listings points g (entries bs) ∙ sym L.faces in
      let none : drop p.faces (primitive_uses points g (entries bs)) ≡ [] = U.left ∙ kept_end (uses_of g) points g h in
      let f : p.faces ≡ t.faces = omega (arith, ap length none, length-drop p.faces (primitive_uses points g (entries bs)), length_uses points g (entries bs), L.faces, U.faces) in
      let c : p.corner.0 ≡ t.count = U.corners ∙ ap (λ (j : ℕ). width_of g * j) (f ∙ L.faces) ∙ sym L.count in
      record { listed = listed_all (rw B.len L.room) n f c U.made; beside = B }
