-- FORMAT 8.4: the tables that are written hold the faces as they are listed.
use mathlib.Core.Path.{◌≡◌, refl, sym, ap, ap₂, ◌∙◌, subst}
use mathlib.Core.Bool.{Bool}
use mathlib.Core.List.{List, [], map}
use Prim.Native.Nat.{ℕ, suc, ◌+◌, ◌-◌, ◌*◌, ◌≤◌, ◌<◌}
use native.Mathlib.Nat.{zero-add}
use native.Mathlib.Omega.{arith}
use lib.ListN.{length, get_or, take, length-map}
use Rattle.block.specs.Edition.{most}
use Rattle.block.specs.declared.header.Header.{Header}
use Rattle.lists.specs.Lists.{flat, total}
use Rattle.mesh.specs.Extrusion.{spine_count, section_count}
use Rattle.lists.proofs.Lists.{length_map_n, get_or_map_n, get_or_map_lt}
use Rattle.tables.specs.declared.layout.Plan.{Plan}
use Rattle.tables.specs.Layout.{Room}
use Rattle.lists.specs.Parts.{seg, spliced, Kept, TableOf}
use Rattle.tables.specs.Soups.{point_in, place_in, start_in, number_in}
use Rattle.tables.specs.Listed.{Use, Listing, no_use, no_listing, uses_at, Beside, Listed}
use Rattle.lists.proofs.Keep.{kept_then, kept_seg, seg_at, table_kept}
use Rattle.extrusion.specs.Listings.{face_points, use_of, extrusion_listings, start_at, Planned}
use Rattle.lists.proofs.Splices.{put_kept, put_seg, put_table}
use Rattle.lists.specs.Loops.{tab}
use Rattle.lists.proofs.Tabs.{length_tab}
use Rattle.lists.proofs.Totals.{flat_place}
use Rattle.tables.proofs.Besides.{beside_then, beside_corners, beside_starts, beside_places, beside_numbers}
use Rattle.extrusion.proofs.Counting.{face_size, faces_count, flat_count, starts_are, starts_last, start_none, start_suc, start_rises}
use Rattle.extrusion.proofs.Inside.{point_below}

-- ---- the listing, face by face

module _ (n m cap : ℕ) (b e : Bool) where
  pub listings_length : length (extrusion_listings n m cap b e) ≡ length (face_points n m cap b e)
  unfolding extrusion_listings
  listings_length = length_map_n _ 0 (face_points n m cap b e)

  listing_at : (j : ℕ) → j < length (face_points n m cap b e)
      → get_or (extrusion_listings n m cap b e) j no_listing ≡ record { number = j; uses = map use_of (get_or (face_points n m cap b e) j []) }
  unfolding extrusion_listings
  listing_at j h =
      get_or_map_n (λ k ps. record { number = k; uses = map use_of ps }) 0 (face_points n m cap b e) j no_listing [] h
      ∙ ap (λ (k : ℕ). record { number = k; uses = map use_of (get_or (face_points n m cap b e) j []) }) (zero-add j)

  number_at : (j : ℕ) → j < length (face_points n m cap b e) → (get_or (extrusion_listings n m cap b e) j no_listing).number ≡ j
  number_at j h = ap (λ (l : Listing). l.number) (listing_at j h)

  uses_at_lem : (j : ℕ) → j < length (face_points n m cap b e) → uses_at (extrusion_listings n m cap b e) j ≡ map use_of (get_or (face_points n m cap b e) j [])
  uses_at_lem j h = ap (λ (l : Listing). l.uses) (listing_at j h)

  pub uses_length : (j : ℕ) → j < length (face_points n m cap b e) → length (uses_at (extrusion_listings n m cap b e) j) ≡ length (get_or (face_points n m cap b e) j [])
  uses_length j h = ap length (uses_at_lem j h) ∙ length-map (get_or (face_points n m cap b e) j []) use_of

  pub use_at : (j i : ℕ) → j < length (face_points n m cap b e) → i < length (uses_at (extrusion_listings n m cap b e) j)
      → get_or (uses_at (extrusion_listings n m cap b e) j) i no_use ≡ use_of (get_or (get_or (face_points n m cap b e) j []) i 0)
  use_at j i h l =
      ap (λ (u : List Use). get_or u i no_use) (uses_at_lem j h) ∙ get_or_map_lt use_of (get_or (face_points n m cap b e) j []) i no_use 0 (rw (uses_length j h) at l)

-- ---- what the tables hold, once they are written

pub record Tabled (n m cap : ℕ) (b e : Bool) (t : Plan) (w : List ℕ) : Type 0 where
  pub points : seg w t.corners (length (flat (face_points n m cap b e))) ≡ flat (face_points n m cap b e)
  pub places : seg w t.places (length (flat (face_points n m cap b e))) ≡ flat (face_points n m cap b e)
  pub starts : TableOf w t.starts (t.faces + 1) (start_at ((n - 1) * (m - 1)) cap)
  pub numbers : TableOf w t.numbers t.faces (λ j. j)

module _ (n m cap : ℕ) (b e : Bool) (hn : 2 ≤ n) (hm : 2 ≤ m) (hc : cap ≤ m) (t : Plan) (w : List ℕ) (R : Room (length w) t) (W : Tabled n m cap b e t w)
    (count : t.count ≡ length (flat (face_points n m cap b e))) (faces : t.faces ≡ length (face_points n m cap b e)) where
  start_is : (j : ℕ) → j ≤ t.faces → start_in w t j ≡ start_at ((n - 1) * (m - 1)) cap j
  unfolding start_in
  start_is j h = W.starts.at j (omega arith)

  start_sum : (j : ℕ) → j ≤ t.faces → start_in w t j ≡ total length (take j (face_points n m cap b e))
  start_sum j h = start_is j h ∙ starts_are n m cap b e hm j (omega arith)

  starts_rise : (j : ℕ) → j < t.faces → start_in w t (suc j) ≡ start_in w t j + length (uses_at (extrusion_listings n m cap b e) j)
  starts_rise j h =
      let l : j < length (face_points n m cap b e) = omega arith in
      start_is (suc j) h ∙ start_suc ((n - 1) * (m - 1)) cap j
      ∙ ap₂ (λ (x y : ℕ). x + y) (sym (start_is j (omega arith))) (sym (uses_length n m cap b e j l ∙ face_size n m cap b e hm j l))

  starts_end : start_in w t t.faces ≡ t.count
  starts_end =
      start_is t.faces (omega arith) ∙ ap (start_at ((n - 1) * (m - 1)) cap) faces ∙ starts_last n m cap b e hm
      ∙ sym (flat_count n m cap b e) ∙ sym count

  starts_up : (j : ℕ) → j ≤ t.faces → start_in w t j ≤ t.count
  starts_up j h = omega (arith, start_is j h, start_is t.faces (omega arith), start_rises ((n - 1) * (m - 1)) cap j t.faces h, starts_end)

  -- a word of a table that is a copy of the points
  copied : (a c : ℕ) → seg w a (length (flat (face_points n m cap b e))) ≡ flat (face_points n m cap b e) → c < t.count
      → get_or w (a + c) 0 ≡ get_or (flat (face_points n m cap b e)) c 0
  copied a c q h = sym (seg_at w a (length (flat (face_points n m cap b e))) c (omega arith)) ∙ ap (λ (l : List ℕ). get_or l c 0) q

  at_corner : (a j i : ℕ) → seg w a (length (flat (face_points n m cap b e))) ≡ flat (face_points n m cap b e) → j < t.faces → i < length (uses_at (extrusion_listings n m cap b e) j)
      → use_of (get_or w (a + (start_in w t j + i)) 0) ≡ get_or (uses_at (extrusion_listings n m cap b e) j) i no_use
  at_corner a j i q h l =
      let j_lt : j < length (face_points n m cap b e) = omega arith in
      let i_lt : i < length (get_or (face_points n m cap b e) j []) = rw (uses_length n m cap b e j j_lt) at l in
      let c_lt : start_in w t j + i < t.count = omega (arith, starts_rise j h, starts_up (suc j) h) in
      ap use_of (copied a (start_in w t j + i) q c_lt
      ∙ ap (λ (k : ℕ). get_or (flat (face_points n m cap b e)) (k + i) 0) (start_sum j (omega arith)) ∙ flat_place (face_points n m cap b e) j i 0 j_lt i_lt)
      ∙ sym (use_at n m cap b e j i j_lt l)

  listed : t.spots ≡ n * m → Listed w t (extrusion_listings n m cap b e)
  unfolding start_in point_in place_in number_in
  listed s = record {
    room = R;
    faces = listings_length n m cap b e ∙ sym faces;
    first = start_is 0 (omega arith) ∙ sym (start_none ((n - 1) * (m - 1)) cap);
    starts = starts_rise;
    last = starts_end;
    within = λ c h. let q = copied t.corners c W.points h in omega (arith, point_below n m cap b e hn hc c (omega arith));
    numbers = λ j h. W.numbers.at j h ∙ sym (number_at n m cap b e j (omega arith));
    points = λ j i h l. ap (λ (u : Use). u.point) (at_corner t.corners j i W.points h l);
    places = λ j i h l. ap (λ (u : Use). u.place) (at_corner t.places j i W.places h l);
  }

-- ---- the four writings, one after another

pub faces_written : (n m cap : ℕ) (b e : Bool) (t : Plan) (l w x y z : List ℕ) → Room (length l) t → t.count ≡ length (flat (face_points n m cap b e))
    → w ≡ spliced l t.corners (flat (face_points n m cap b e)) → x ≡ spliced w t.starts (tab (start_at ((n - 1) * (m - 1)) cap) (t.faces + 1) 0)
    → y ≡ spliced x t.places (flat (face_points n m cap b e)) → z ≡ spliced y t.numbers (tab (λ j. j) t.faces 0)
    → Beside t l z × Tabled n m cap b e t z
faces_written n m cap b e t l w x y z R count ew ex ey ez =
    let p : List ℕ = flat (face_points n m cap b e) in
    let rl : t.corners + length p ≤ length l = omega arith in
    let kw = put_kept l t.corners p ew refl rl in
    let lw = kw.len in
    let rs : t.starts + (t.faces + 1) ≤ length w = omega arith in
    let kx = put_kept w t.starts _ ex (length_tab _ _ 0) rs in
    let lx = kx.len in
    let rx : t.places + length p ≤ length x = omega arith in
    let ky = put_kept x t.places p ey refl rx in
    let ly = ky.len in
    let ry : t.numbers + t.faces ≤ length y = omega arith in
    let kz = put_kept y t.numbers _ ez (length_tab _ _ 0) ry in
    let kyz : Kept t.places x z = kept_then ky kz (omega arith) in
    let kwz : Kept t.starts w z = kept_then kx kyz (omega arith) in (
      beside_then (beside_corners l t.corners p ew refl rl (omega arith) (omega arith))
          (beside_then (beside_starts w t.starts _ ex (length_tab _ _ 0) rs (omega arith) (omega arith))
          (beside_then (beside_places x t.places p ey refl rx (omega arith) (omega arith))
          (beside_numbers y t.numbers _ ez (length_tab _ _ 0) ry (omega arith) (omega arith)))),
      record {
        points = kept_seg kwz t.corners (length p) (omega arith) (omega arith) ∙ put_seg l t.corners p ew refl rl;
        places = kept_seg kz t.places (length p) (omega arith) (omega arith) ∙ put_seg x t.places p ey refl rx;
        starts = table_kept t.starts (t.faces + 1) kyz (omega arith) (put_table w _ rs ex);
        numbers = put_table y _ ry ez;
      },
    )

-- where the tables end
module _ {h : Header} {cap len : ℕ} {t : Plan} (P : Planned h cap len t) where
  pub room_corners : t.corners + t.count ≤ len
  room_corners = let R = P.room in omega arith

  pub room_starts : t.starts + (t.faces + 1) ≤ len
  room_starts = let R = P.room in omega arith

  pub room_places : t.places + t.count ≤ len
  room_places = let R = P.room in omega arith

-- the counts of the plan are those of the faces, for n spine and m cross-section points
module _ {h : Header} {cap len : ℕ} {t : Plan} (P : Planned h cap len t) (n m : ℕ) (en : n ≡ spine_count h) (em : m ≡ section_count h) where
  faces_planned : t.faces ≡ length (face_points n m cap h.begin_cap h.end_cap)
  faces_planned = rw (en, em) (P.faces ∙ sym (faces_count (spine_count h) (section_count h) cap h.begin_cap h.end_cap P.section))

  count_planned : t.count ≡ length (flat (face_points n m cap h.begin_cap h.end_cap))
  count_planned = rw (en, em) (P.count ∙ sym (flat_count (spine_count h) (section_count h) cap h.begin_cap h.end_cap))

  spots_planned : t.spots ≡ n * m
  spots_planned = rw (en, em) P.spots

  pub section_planned : 2 ≤ m
  section_planned = rw em P.section

  pub spine_planned : 2 ≤ n
  spine_planned = rw en P.spine

  pub cap_planned : cap ≤ m
  cap_planned = rw em P.fewer

  start_planned : start_at ((n - 1) * (m - 1)) cap t.faces ≡ t.count
  start_planned =
      ap (start_at ((n - 1) * (m - 1)) cap) faces_planned ∙ starts_last n m cap h.begin_cap h.end_cap section_planned
      ∙ sym (flat_count n m cap h.begin_cap h.end_cap) ∙ sym count_planned

  pub rows_planned : n * m ≤ most
  rows_planned = omega (arith, spots_planned, P.room.some)

  -- room for the points at a, where a table of corners stands
  pub uses_room : (a l : ℕ) → a + t.count ≤ l → a + length (flat (face_points n m cap h.begin_cap h.end_cap)) ≤ l
  uses_room a l r = omega (arith, count_planned)

  pub starts_room : (l : ℕ) → t.starts + (t.faces + 1) ≤ l → (t.faces ≤ most) × (start_at ((n - 1) * (m - 1)) cap t.faces ≤ most) × (t.starts + (t.faces + 1) ≤ l)
  starts_room l r = (P.room.many, omega (arith, start_planned, P.room.few), r)

  -- the product of the sides fits
  pub sides_most : (n - 1) * (m - 1) ≤ most
  sides_most = omega (arith, P.room.many, faces_planned, faces_count n m cap h.begin_cap h.end_cap section_planned)

  pub faces_put : (l w x y z : List ℕ) → len ≡ length l
      → w ≡ spliced l t.corners (flat (face_points n m cap h.begin_cap h.end_cap)) → x ≡ spliced w t.starts (tab (start_at ((n - 1) * (m - 1)) cap) (t.faces + 1) 0)
      → y ≡ spliced x t.places (flat (face_points n m cap h.begin_cap h.end_cap)) → z ≡ spliced y t.numbers (tab (λ j. j) t.faces 0)
      → Beside t l z × Listed z t (extrusion_listings (spine_count h) (section_count h) cap h.begin_cap h.end_cap)
  faces_put l w x y z el ew ex ey ez =
      let R : Room (length l) t = rw el at P.room in
      let q = faces_written n m cap h.begin_cap h.end_cap t l w x y z R count_planned ew ex ey ez in
      let L : Listed z t (extrusion_listings n m cap h.begin_cap h.end_cap)
      = listed n m cap h.begin_cap h.end_cap spine_planned section_planned cap_planned t z (rw q.0.len R) q.1 count_planned faces_planned spots_planned in
      (q.0, subst (λ (k : ℕ). Listed z t (extrusion_listings k (section_count h) cap h.begin_cap h.end_cap)) en (subst (λ (k : ℕ). Listed z t (extrusion_listings n k cap h.begin_cap h.end_cap)) em L))
