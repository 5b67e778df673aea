-- The four tables of a grid's quads hold its listings.
use mathlib.Core.Path.{◌≡◌, refl, sym, ap, ◌∙◌}
use mathlib.Core.List.{List, map}
use Prim.Native.Nat.{ℕ, zero, suc, ◌+◌, ◌-◌, ◌*◌, ◌/◌, ◌%◌, ◌≤◌, ◌<◌}
use native.Mathlib.Nat.{one-mul, mul_comm}
use native.Mathlib.Omega.{arith}
use lib.ListN.{length, get_or, drop}
use lib.Seq.{paste}
use Rattle.lists.specs.Loops.{tab}
use Rattle.lists.proofs.Splices.{put_kept, put_seg, put_table, copied}
use Rattle.lists.proofs.Tabs.{length_tab, tab_at}
use Rattle.block.specs.declared.header.Header.{Header}
use Rattle.mesh.specs.Quads.{quad}
use Rattle.mesh.specs.Grid.{x_dimension, z_dimension}
use Rattle.mesh.specs.Sizes.{quad_count}
use Rattle.lists.proofs.Lists.{get_or_map_lt}
use Rattle.tables.specs.declared.layout.Plan.{Plan}
use Rattle.lists.specs.Parts.{seg, spliced, Kept, TableOf}
use Rattle.tables.specs.Soups.{point_in, start_in, number_in, place_in}
use Rattle.tables.specs.Listed.{Use, no_use, Listing, no_listing, uses_at, Beside, Listed}
use Rattle.lists.proofs.Keep.{kept_then, kept_seg, table_kept}
use Rattle.tables.proofs.Besides.{beside_then, beside_corners, beside_starts, beside_places, beside_numbers}
use Rattle.grid.specs.Sides.{Sides, Planned}
use Rattle.grid.specs.Listings.{quad_of, corner_point, use_of, grid_listing, grid_listings}
use Rattle.grid.proofs.Numbers.{point_below}

-- quad j of the listings
listing_at : (xd zd j : ℕ) → j < (zd - 1) * (xd - 1) → get_or (grid_listings xd zd) j no_listing ≡ grid_listing xd j
unfolding grid_listings
listing_at xd zd j h = tab_at (grid_listing xd) ((zd - 1) * (xd - 1)) j no_listing h

listings_length : (xd zd : ℕ) → length (grid_listings xd zd) ≡ (zd - 1) * (xd - 1)
unfolding grid_listings
listings_length xd zd = length_tab (grid_listing xd) ((zd - 1) * (xd - 1)) 0

-- corner 4 * j + i is corner i of quad j; f is the point or the place of a use
used : (xd j i : ℕ) (f : Use → ℕ) → quad_of (λ p. p) xd j ≡ map f (quad_of use_of xd j) → i < 4 → corner_point xd (4 * j + i) ≡ f (get_or (quad_of use_of xd j) i no_use)
unfolding corner_point quad
used xd j i f s h =
    let d : (4 * j + i) / 4 ≡ j = omega arith in
    let m : (4 * j + i) % 4 ≡ i = omega arith in
    rw (d, m) (ap (λ (l : List ℕ). get_or l i 0) s ∙ get_or_map_lt f (quad_of use_of xd j) i 0 no_use h)

-- the tables once they are written
pub record Tabled (xd : ℕ) (w : List ℕ) (t : Plan) : Type 0 where
  pub corners : TableOf w t.corners t.count (corner_point xd)
  pub starts : TableOf w t.starts (t.faces + 1) (λ (j : ℕ). 4 * j)
  pub places : TableOf w t.places t.count (corner_point xd)
  pub numbers : TableOf w t.numbers t.faces (λ (j : ℕ). 1 * j)

pub tables_held : (h : Header) (w : List ℕ) (t : Plan) → Sides h → Planned h (length w) t → Tabled (x_dimension h) w t → Listed w t (grid_listings (x_dimension h) (z_dimension h))
unfolding point_in start_in number_in place_in grid_listing quad
tables_held h w t S P T =
    let xd = x_dimension h in
    let zd = z_dimension h in
    let ls = grid_listings xd zd in
    let q : t.faces ≡ (zd - 1) * (xd - 1) = P.faces ∙ mul_comm (xd - 1) (zd - 1) in
    let n : t.count ≡ 4 * t.faces = omega (arith, P.count) in
    let at : (j : ℕ) → j < t.faces → get_or ls j no_listing ≡ grid_listing xd j = λ j l. listing_at xd zd j (omega arith) in
    let four : (j : ℕ) → j < t.faces → length (uses_at ls j) ≡ 4 = λ j l. ap (λ (x : Listing). length x.uses) (at j l) in
    let start : (j : ℕ) → j < t.faces + 1 → start_in w t j ≡ 4 * j = T.starts.at in
    let read : (f : Use → ℕ) → ((q : ℕ) → quad_of (λ p. p) xd q ≡ map f (quad_of use_of xd q)) → (a : ℕ) → TableOf w a t.count (corner_point xd)
    → (j i : ℕ) → j < t.faces → i < length (uses_at ls j) → get_or w (a + (start_in w t j + i)) 0 ≡ f (get_or (uses_at ls j) i no_use)
    = λ f s a A j i l m. let k : i < 4 = omega (arith, four j l) in
    ap (λ (b : ℕ). get_or w (a + (b + i)) 0) (start j (omega arith)) ∙ A.at (4 * j + i) (omega arith) ∙ used xd j i f (s j) k
    ∙ sym (ap (λ (x : Listing). f (get_or x.uses i no_use)) (at j l)) in
    record {
      room = P.room;
      faces = listings_length xd zd ∙ sym q;
      first = start 0 (omega arith);
      starts = λ j l. omega (arith, start (suc j) (omega arith), start j (omega arith), four j l);
      last = start t.faces (omega arith) ∙ sym n;
      within = λ c l. let b = point_below xd zd c S.wide (omega (arith, n, q)) in omega (arith, T.corners.at c l, b, P.spots);
      numbers = λ j l. T.numbers.at j l ∙ one-mul j ∙ sym (ap (λ (x : Listing). x.number) (at j l));
      points = read (λ (u : Use). u.point) (λ q. refl) t.corners T.corners;
      places = read (λ (u : Use). u.place) (λ q. refl) t.places T.places;
    }

-- and then each corner has the point of its number
module _ (h : Header) {w : List ℕ} {t : Plan} (L : Listed w t (grid_listings (x_dimension h) (z_dimension h))) where
  quads : t.faces ≡ (z_dimension h - 1) * (x_dimension h - 1)
  quads = sym L.faces ∙ listings_length (x_dimension h) (z_dimension h)

  uses_of : (j : ℕ) → j < t.faces → uses_at (grid_listings (x_dimension h) (z_dimension h)) j ≡ quad_of use_of (x_dimension h) j
  unfolding grid_listing
  uses_of j l = ap (λ (x : Listing). x.uses) (listing_at (x_dimension h) (z_dimension h) j (omega (arith, l, quads)))

  start_of : (j : ℕ) → j ≤ t.faces → start_in w t j ≡ 4 * j
  unfolding quad
  start_of zero l = L.first
  start_of (suc j) l = omega (arith, L.starts j (omega arith), start_of j (omega arith), ap length (uses_of j (omega arith)))

  pub corners_listed : t.count ≡ 4 * quad_count h
  corners_listed = omega (arith, L.last, start_of t.faces (omega arith), quads, mul_comm (x_dimension h - 1) (z_dimension h - 1))

  pub point_listed : (c : ℕ) → c < t.count → corner_point (x_dimension h) c ≡ point_in w t c
  unfolding quad
  point_listed c l =
      let xd = x_dimension h in
      let j = c / 4 in
      let i = c % 4 in
      let b : j < t.faces = omega (arith, L.last, start_of t.faces (omega arith)) in
      let e = uses_of j b in
      let k : 4 * j + i ≡ c = omega arith in
      let z : i < length (uses_at (grid_listings xd (z_dimension h)) j) = omega (arith, ap length e) in
      ap (corner_point xd) (sym k) ∙ used xd j i (λ (u : Use). u.point) refl (omega arith) ∙ ap (λ (l : List Use). (get_or l i no_use).point) (sym e)
      ∙ sym (L.points j i b z) ∙ ap (point_in w t) (ap (λ (a : ℕ). a + i) (start_of j (omega arith)) ∙ k)

-- ---- the code that writes them

-- one table after another
pub tables_written : (h : Header) (t : Plan) (w₀ w₁ w₂ w₃ w₄ : List ℕ) → Sides h → Planned h (length w₀) t
    → w₁ ≡ spliced w₀ t.corners (tab (corner_point (x_dimension h)) (4 * quad_count h) 0) → w₂ ≡ spliced w₁ t.starts (tab (λ (j : ℕ). 4 * j) (t.faces + 1) 0)
    → w₃ ≡ paste w₂ t.places (drop t.corners w₂) (t.corners + t.count - t.corners) → w₄ ≡ spliced w₃ t.numbers (tab (λ (j : ℕ). 1 * j) t.faces 0)
    → Beside t w₀ w₄ × Listed w₄ t (grid_listings (x_dimension h) (z_dimension h))
tables_written h t w₀ w₁ w₂ w₃ w₄ S P a B c D =
    let R = P.room in
    let A : w₁ ≡ spliced w₀ t.corners (tab (corner_point (x_dimension h)) t.count 0) = rw P.count a in
    let ra : t.corners + t.count ≤ length w₀ = omega arith in
    let K = put_kept w₀ t.corners _ A (length_tab _ _ 0) ra in
    let la = K.len in
    let rb : t.starts + (t.faces + 1) ≤ length w₁ = omega arith in
    let L = put_kept w₁ t.starts _ B (length_tab _ _ 0) rb in
    let lb = L.len in
    let rc : t.places + t.count ≤ length w₂ = omega arith in
    let q : seg w₂ t.corners t.count ≡ tab (corner_point (x_dimension h)) t.count 0 = kept_seg L t.corners t.count R.corners (omega arith) ∙ put_seg w₀ t.corners _ A (length_tab _ _ 0) ra in
    let C : w₃ ≡ spliced w₂ t.places (tab (corner_point (x_dimension h)) t.count 0) =
    c ∙ copied w₂ t.places t.corners (t.corners + t.count) t.count refl (omega arith) ∙ ap (spliced w₂ t.places) q in
    let M = put_kept w₂ t.places _ C (length_tab _ _ 0) rc in
    let lc = M.len in
    let rd : t.numbers + t.faces ≤ length w₃ = omega arith in
    let N = put_kept w₃ t.numbers _ D (length_tab _ _ 0) rd in
    let p : Kept t.places w₂ w₄ = kept_then M N (omega arith) in
    let s : Kept t.starts w₁ w₄ = kept_then L p (omega arith) in
    let T : Tabled (x_dimension h) w₄ t = record {
      corners = table_kept t.corners t.count s (omega arith) (put_table w₀ _ ra A);
      starts = table_kept t.starts (t.faces + 1) p (omega arith) (put_table w₁ _ rb B);
      places = table_kept t.places t.count N (omega arith) (put_table w₂ _ rc C);
      numbers = put_table w₃ _ rd D;
    } in
    let b : Beside t w₀ w₄ = beside_then (beside_corners w₀ t.corners _ A (length_tab _ _ 0) ra (omega arith) (omega arith))
    (beside_then (beside_starts w₁ t.starts _ B (length_tab _ _ 0) rb (omega arith) (omega arith))
    (beside_then (beside_places w₂ t.places _ C (length_tab _ _ 0) rc (omega arith) (omega arith))
    (beside_numbers w₃ t.numbers _ D (length_tab _ _ 0) rd (omega arith) (omega arith)))) in
    let n : Planned h (length w₄) t = rw b.len P in
    (b, tables_held h w₄ t S n T)
