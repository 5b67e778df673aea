-- Tables that hold listed faces hold the soup of these faces.
use mathlib.Core.Path.{◌≡◌, refl, sym, ap, ◌∙◌}
use mathlib.Core.List.{List, [], ◌∷◌, map}
use Prim.Native.Nat.{ℕ, suc, ◌+◌, ◌≤◌, ◌<◌}
use native.Mathlib.Nat.{not-suc-le-zero}
use native.Mathlib.Omega.{arith}
use lib.ListN.{length, get_or, length-map}
use Rattle.mesh.specs.Soup.{Corner, no_corner, gathered, Face, dense, Frame}
use Rattle.mesh.proofs.Gathered.{gathered_le}
use Rattle.lists.proofs.Lists.{get_or_map_lt}
use Rattle.tables.specs.declared.layout.Plan.{Plan}
use Rattle.lists.specs.Parts.{Kept}
use Rattle.tables.specs.Soups.{point_in, gather_in, start_in, place_in, points_in, Sound, Holds}
use Rattle.tables.specs.Listed.{Use, Listing, no_use, no_listing, faces_with, uses_at, Listed}
use Rattle.tables.proofs.Stays.{start_le, point_kept, place_kept, start_kept, number_kept}
use Rattle.tables.proofs.Held.{holds_of}

-- faces none of which is empty
pub dense_full : (fs : List Face) → ((j : ℕ) → j < length fs → 0 < length (get_or fs j [])) → dense fs ≡ fs
unfolding dense
dense_full [] h = refl
dense_full ([] ∷ fs) h = absurd (not-suc-le-zero (h 0 (omega arith)))
dense_full ((c ∷ cs) ∷ fs) h = ap (λ (l : List Face). (c ∷ cs) ∷ l) (dense_full fs (λ j b. h (suc j) (omega arith)))

module _ {w : List ℕ} {t : Plan} {ls : List Listing} (E : Listed w t ls) where
  gather_within : (c : ℕ) → c < t.count → gather_in w t c < t.spots
  unfolding gather_in
  gather_within c h = omega (arith, E.within c h, gathered_le t.ring (point_in w t c))

  pub listed_sound : Sound w t
  listed_sound = record {
    room = E.room;
    points = E.within;
    gathers = gather_within;
    first = E.first;
    rises = λ g h. let s = E.starts g h in omega arith;
    last = E.last;
  }

  module _ (corner : ℕ → Use → Corner) where
    -- face j, and its corner i
    pub listed_face : (j : ℕ) → j < t.faces → get_or (faces_with corner ls) j [] ≡ map (corner (get_or ls j no_listing).number) (uses_at ls j)
    unfolding faces_with
    listed_face j h = let l = E.faces in get_or_map_lt (λ (l : Listing). map (corner l.number) l.uses) ls j [] no_listing (omega arith)

    pub listed_long : (j : ℕ) → j < t.faces → length (get_or (faces_with corner ls) j []) ≡ length (uses_at ls j)
    listed_long j h = ap length (listed_face j h) ∙ length-map (uses_at ls j) (corner (get_or ls j no_listing).number)

    pub listed_corner : (j i : ℕ) → j < t.faces → i < length (uses_at ls j)
        → get_or (get_or (faces_with corner ls) j []) i no_corner ≡ corner (get_or ls j no_listing).number (get_or (uses_at ls j) i no_use)
    listed_corner j i h b =
        ap (λ (f : Face). get_or f i no_corner) (listed_face j h) ∙ get_or_map_lt (corner (get_or ls j no_listing).number) (uses_at ls j) i no_corner no_use b

    faces_count : length (faces_with corner ls) ≡ t.faces
    unfolding faces_with
    faces_count = length-map ls (λ (l : Listing). map (corner l.number) l.uses) ∙ E.faces

    -- a corner is at the point of its use
    pub listed_holds : ((n : ℕ) (u : Use) → ((corner n u).point ≡ u.point) × ((corner n u).gather ≡ gathered t.ring u.point)) → ((j : ℕ) → j < t.faces → 0 < length (uses_at ls j))
        → (F : Frame) → points_in w t ≡ F.points → Holds w t F (faces_with corner ls)
    unfolding gather_in
    listed_holds at full F p =
        let fs = faces_with corner ls in
        let count : length fs ≡ t.faces = faces_count in
        holds_of listed_sound fs count
        (λ j h. E.starts j h ∙ ap (λ (n : ℕ). start_in w t j + n) (sym (listed_long j h)))
        (λ j i h b.
        let b' : i < length (uses_at ls j) = let q = listed_long j h in omega arith in
        let u = get_or (uses_at ls j) i no_use in
        let n = (get_or ls j no_listing).number in
        let q = ap (λ (c : Corner). c.point) (listed_corner j i h b') in
        let r = ap (λ (c : Corner). c.gather) (listed_corner j i h b') in
        record {
          point = E.points j i h b' ∙ sym (q ∙ (at n u).0);
          gather = ap (gathered t.ring) (E.points j i h b') ∙ sym (r ∙ (at n u).1);
        })
        F p (dense_full fs (λ j b. let h : j < t.faces = omega arith in let q = listed_long j h in let z = full j h in omega arith))

-- they still do where words above them change
pub listed_kept : {b : ℕ} {v w : List ℕ} {t : Plan} {ls : List Listing} → Kept b v w → t.owners ≤ b → Listed v t ls → Listed w t ls
listed_kept {b} {v} {w} {t} {ls} K h E =
    let R = E.room in
    let start : (j : ℕ) → j ≤ t.faces → start_in w t j ≡ start_in v t j = λ j k. start_kept K t j (omega arith) in
    record {
      room = rw K.len R;
      faces = E.faces;
      first = start 0 (omega arith) ∙ E.first;
      starts = λ j k. start (suc j) k ∙ E.starts j k ∙ ap (λ (n : ℕ). n + length (uses_at ls j)) (sym (start j (omega arith)));
      last = start t.faces (omega arith) ∙ E.last;
      within = λ c k. rw (point_kept K t c (omega arith)) (E.within c k);
      numbers = λ j k. number_kept K t j (omega arith) ∙ E.numbers j k;
      points = λ j i k b.
          let m : start_in v t j + i < t.count = below j i k b in
          ap (λ (a : ℕ). point_in w t (a + i)) (start j (omega arith)) ∙ point_kept K t (start_in v t j + i) (omega arith) ∙ E.points j i k b;
      places = λ j i k b.
          let m : start_in v t j + i < t.count = below j i k b in
          ap (λ (a : ℕ). place_in w t (a + i)) (start j (omega arith)) ∙ place_kept K t (start_in v t j + i) (omega arith) ∙ E.places j i k b;
    }
  where
    below : (j i : ℕ) → j < t.faces → i < length (uses_at ls j) → start_in v t j + i < t.count
    below j i k b =
        let S = listed_sound E in
        let s = E.starts j k in
        let r = start_le S (suc j) k in
        omega arith
