-- A pass over the runs: one run more, and all of them.
use mathlib.Core.Path.{◌≡◌, refl, sym, ap, subst, ◌∙◌}
use mathlib.Core.Bool.{Bool, true, false, cond}
use mathlib.Core.List.{List, [], ◌∷◌}
use Prim.Native.Nat.{ℕ, suc, ◌+◌, ◌/◌, ◌≤◌}
use native.Mathlib.Numerals.{add-one}
use native.Mathlib.Omega.{arith}
use lib.ListN.{length, get_or, set, drop, length-drop}
use lib.Seq.{drop-cons}
use Rattle.bits.specs.Bits.{entries}
use Rattle.bits.proofs.Entries.{entries_length}
use Rattle.block.specs.declared.runs.Runs.{Runs}
use Rattle.block.specs.Runs.{Run, run_of, runs, kept, faces, corners, sum_over}
use Rattle.block.specs.Walk.{rest, RunGiven}
use Rattle.block.proofs.RunLaws.{kept_below, face_kept, face_lost}
use Rattle.block.proofs.Walks.{Walks, walks_on, sum_first, sum_end}
use Rattle.lists.specs.Lists.{map_n, join_n}
use Rattle.lists.proofs.Lists.{length_map_n}
use Rattle.tables.specs.declared.layout.Plan.{Plan}
use Rattle.tables.specs.Listed.{Use, no_listing, Beside}
use Rattle.tables.proofs.Besides.{beside_all, beside_then}
use Rattle.faceset.specs.declared.listing.Progress.{Progress}
use Rattle.faceset.specs.Listings.{use_of, listing_of, listed, listings_of}
use Rattle.faceset.specs.Adding.{Fits, face_added, after_face, words_after, progress_after}
use Rattle.faceset.specs.Passing.{Planned, RunFits, Underway, FacesListed}
use Rattle.faceset.proofs.Faces.{listings_kept, listings_lost, length_listings, used_at}
use Rattle.faceset.proofs.Writing.{face_beside}
use Rattle.faceset.proofs.Adding.{listed_none, listed_more, listed_all}

-- ---- one run more

module _ {points : ℕ} {bs w : List ℕ} {t : Plan} {number : ℕ} {p : Progress} {s : ℕ} (r : List ℕ) {rs : List Run} (L : Planned points bs (length w) t)
    (U : Underway points bs w t number p (run_of s (entries r) ∷ rs)) (h : s + length r / 4 ≤ length bs / 4) (m : number ≤ s) where
  faces_turn : sum_over (faces points) (run_of s (entries r) ∷ rs) ≡ faces points (entries r) + sum_over (faces points) rs
  faces_turn = sum_first (faces points) refl

  corners_turn : sum_over (corners points) (run_of s (entries r) ∷ rs) ≡ corners points (entries r) + sum_over (corners points) rs
  corners_turn = sum_first (corners points) refl

  abbrev us : List Use
  us = map_n use_of s (entries r)

  long : length us ≡ length r / 4
  long = length_map_n use_of s (entries r) ∙ entries_length r

  fits_here : RunFits points (length w) t s r number p
  fits_here = record {
    room = L.room;
    spots = L.spots;
    places = omega (arith, L.few);
    few = omega (arith, L.few);
    face = λ e. let f = face_kept points (entries r) e in omega (arith, f.0, faces_turn, U.faces);
    corners = λ e. let f = face_kept points (entries r) e in omega (arith, f.1, corners_turn, U.corners, entries_length r);
  }

  turn_lost : kept points (entries r) ≡ false → Beside t w w × Underway points bs w t (number + 1) p rs
  turn_lost e =
      let f = face_lost points (entries r) e in (
        beside_all,
        record {
          faces = omega (arith, f.0, faces_turn, U.faces);
          corners = omega (arith, f.1, corners_turn, U.corners);
          left = rw add-one (U.left ∙ listings_lost points number (run_of s (entries r)) rs e);
          made = U.made;
        },
      )

  module _ (e : kept points (entries r) ≡ true) where
    left_kept : drop p.faces (listings_of points (entries bs)) ≡ listing_of number (run_of s (entries r)) ∷ join_n (listed points) (suc number) rs
    left_kept = U.left ∙ listings_kept points number (run_of s (entries r)) rs e

    left_cons : drop p.faces (listings_of points (entries bs)) ≡ get_or (listings_of points (entries bs)) p.faces no_listing ∷ drop (suc p.faces) (listings_of points (entries bs))
    left_cons = drop-cons (listings_of points (entries bs)) p.faces no_listing
        (omega (arith, ap length left_kept, length-drop p.faces (listings_of points (entries bs))))

    turn_kept : Beside t w (face_added t p.faces p.corner.0 number us w) × Underway points bs (face_added t p.faces p.corner.0 number us w) t (number + 1) (after_face p (length r / 4)) rs
    turn_kept =
        let f = face_kept points (entries r) e in
        let l = entries_length r in
        let k = left_kept in
        let d = left_cons in
        let m = long in
        let Q : Fits (length w) t p.faces p.corner.0 (length us) = record {
          room = L.room;
          face = fits_here.face e;
          corners = rw m (fits_here.corners e);
        } in (
          face_beside t p.faces p.corner.0 number us w Q,
          record {
            faces = omega (arith, f.0, faces_turn, U.faces);
            corners = omega (arith, f.1, corners_turn, U.corners);
            left = rw (add-one p.faces, add-one number) (cc);
            made = rw m at (listed_more {number = number} {us = us} U.made Q (cc) (λ i c. rw (used_at s (entries r) i (omega arith), L.spots) (kept_below points (entries r) e i (omega arith))));
          },
        )

  abbrev After : List ℕ → Progress → Type 0
  After w' p' = Beside t w w' × Underway points bs w' t (number + 1) p' rs

  -- n is the number of the run
  module _ {n : ℕ} (q : n ≡ number) where
    pub run_fits : RunFits points (length w) t s r n p
    run_fits = rw q fits_here

    pub run_passed : {w' : List ℕ} {p' : Progress} → w' ≡ words_after (kept points (entries r)) t p n us w → p' ≡ progress_after (kept points (entries r)) p (length r / 4) → After w' p'
    unfolding words_after progress_after
    run_passed ew ep = rw (ew, ep, q) (go (kept points (entries r)) turn_kept turn_lost)
      where
        go : (b : Bool) → (b ≡ true → After (face_added t p.faces p.corner.0 number us w) (after_face p (length r / 4))) → (b ≡ false → After w p)
            → After (cond b (face_added t p.faces p.corner.0 number us w) w) (cond b (after_face p (length r / 4)) p)
        go true x y = x refl
        go false x y = y refl

-- ---- all runs

module _ {points : ℕ} {bs : List ℕ} (w : List ℕ) {t : Plan} (L : Planned points bs (length w) t) where
  pub planned_beside : {w' : List ℕ} → Beside t w w' → Planned points bs (length w') t
  planned_beside B = rw B.len L

  pub pass_start : Underway points bs (set w t.starts 0) t 0 (record { faces = 0; corner = record { 0 = 0 } }) (runs (entries bs))
  unfolding listings_of
  pass_start = record {
    faces = omega (arith, L.faces);
    corners = omega (arith, L.count);
    left = refl;
    made = listed_none w L.room;
  }

  pub pass_end : {w' : List ℕ} {number : ℕ} {p : Progress} {rs : List Run} → Beside t w w' → Underway points bs w' t number p rs → rs ≡ [] → FacesListed points bs t w w'
  unfolding listings_of
  pass_end {w'} B U h =
      record {
        listed = listed_all (rw B.len L.room) (length_listings points 0 (runs (entries bs)) ∙ sym L.faces) (sum_end (faces points) h U.faces) (sum_end (corners points) h U.corners) U.made;
        beside = B;
      }

-- ---- as far as a walk over the runs has come: the words were w₀ at its start

pub record Along (points : ℕ) (bs w₀ w : List ℕ) (t : Plan) (walk : Runs) (number : ℕ) (p : Progress) : Type 0 where
  pub planned : Planned points bs (length w) t
  pub beside : Beside t w₀ w
  pub there : Walks bs walk.list.now walk.start
  pub few : number ≤ walk.start
  pub underway : Underway points bs w t number p (rest walk)

-- it gives the run r, whose number is n
module _ {points : ℕ} {bs w₀ w : List ℕ} {t : Plan} {walk walk' : Runs} {number : ℕ} {p : Progress} (A : Along points bs w₀ w t walk number p) {s : ℕ} {r : List ℕ}
    (G : RunGiven walk walk' s r) {n : ℕ} (q : n ≡ number) where
  turn : Underway points bs w t number p (run_of s (entries r) ∷ rest walk')
  turn = subst (Underway points bs w t number p) G.first A.underway

  within : s + length r / 4 ≤ length bs / 4
  within = let l = ap length A.there.list in omega (arith, G.here, G.part.within, G.passes.there)

  passed : number ≤ s
  passed = omega (arith, G.here, A.few)

  pub along_fits : RunFits points (length w) t s r n p
  along_fits = run_fits r A.planned turn within passed q

  pub along_more : {w' : List ℕ} {p' : Progress} {m : ℕ} → w' ≡ words_after (kept points (entries r)) t p n (map_n use_of s (entries r)) w
      → p' ≡ progress_after (kept points (entries r)) p (length r / 4) → m ≡ number + 1 → Along points bs w₀ w' t walk' m p'
  along_more {w'} {p'} ew ep em =
      let P : Beside t w w' × Underway points bs w' t (number + 1) p' (rest walk') = run_passed r A.planned turn within passed q ew ep in
      rw em (record {
        planned = planned_beside w A.planned P.0;
        beside = beside_then A.beside P.0;
        there = walks_on A.there G.passes G.part.within;
        few = omega (arith, A.few, G.passes.next);
        underway = P.1;
      })
