-- FORMAT 8.4: the faces of the definition are the listed faces, each corner made of its face's number and its point.
use mathlib.Core.Path.{◌≡◌, refl, sym, ap, ap₂, ◌∙◌}
use mathlib.Core.Bool.{Bool, true, false, cond}
use mathlib.Core.List.{List, [], ◌∷◌, ◌++◌, map, map-map, reverse}
use Prim.Native.Nat.{ℕ, suc, ◌+◌, ◌-◌, ◌*◌, ◌/◌, ◌%◌, ◌≤◌, ◌<◌}
use native.Mathlib.Nat.{zero-add, mod-lt, add_comm}
use native.Mathlib.Omega.{arith}
use borrow.Author.Tests.{lt-ltb, le-ltb}
use lib.ListN.{length}
use Rattle.block.specs.declared.header.Header.{Header}
use Rattle.block.specs.Header.{header_of}
use Rattle.lists.specs.Loops.{tab}
use Rattle.lists.proofs.Tabs.{length_tab, tab_same, map_tab}
use Rattle.lists.specs.Lists.{map_n}
use Rattle.mesh.specs.Soup.{Corner, Face}
use Rattle.mesh.specs.Quads.{quad}
use Rattle.mesh.specs.Sizes.{quad_count, cap_count, extrusion_sizes}
use Rattle.mesh.specs.Extrusion.{Extrusion, spine_count, section_count, section_of, extrusion_of, has_cap, closes, cap_length, side_corner, cap_corner, sides, cap_face, face_if, caps, extrusion_faces, point_number}
use Rattle.lists.proofs.Totals.{tab_reverse, map_n_tab}
use Rattle.lists.proofs.Lists.{map_n_append}
use Rattle.lists.proofs.Numbers.{row_of, column_of}
use Rattle.lists.proofs.Rows.{tabs_tab}
use Rattle.mesh.proofs.Shapes.{sides_listed}
use Rattle.tables.specs.declared.layout.Plan.{Plan}
use Rattle.tables.specs.Layout.{Room}
use Rattle.tables.specs.Listed.{Use, faces_with}
use Rattle.extrusion.specs.Listings.{if_wanted, side_points, begin_points, end_points, face_points, use_of, extrusion_listings, Planned}
use Rattle.extrusion.specs.Given.{Given}
use Rattle.extrusion.specs.Corners.{texture_of, extrusion_corner}
use Rattle.extrusion.proofs.Blocks.{section_long, spine_long, head_is}

-- the faces of numbered lists of points
faces_of_lem : (corner : ℕ → Use → Corner) (k : ℕ) (l : List (List ℕ))
    → faces_with corner (map_n (λ k ps. record { number = k; uses = map use_of ps }) k l) ≡ map_n (λ k ps. map (λ (p : ℕ). corner k (use_of p)) ps) k l
unfolding faces_with map_n
faces_of_lem corner k [] = refl
faces_of_lem corner k (ps ∷ l) = ap₂ (λ (x : Face) (r : List Face). x ∷ r) (map-map (corner k) use_of ps) (faces_of_lem corner (suc k) l)

-- ---- corners

pub cap_fits : (E : Extrusion) → cap_length E.section ≤ length E.section
unfolding cap_length
cap_fits E = go (closes E.section)
  where
    go : (b : Bool) → cond b (length E.section - 1) (length E.section) ≤ length E.section
    go true = omega arith
    go false = omega arith

module _ (E : Extrusion) (k i j : ℕ) (h : j < length E.section) where
  pub corner_side : k < (length E.spine - 1) * (length E.section - 1) → extrusion_corner E k (use_of (i * length E.section + j)) ≡ side_corner E i j
  unfolding extrusion_corner texture_of side_corner
  corner_side l = rw (lt-ltb k ((length E.spine - 1) * (length E.section - 1)) l, add_comm (i * length E.section) j, row_of (length E.section) j i h, column_of (length E.section) j i h) refl

  pub corner_cap : (length E.spine - 1) * (length E.section - 1) ≤ k → extrusion_corner E k (use_of (i * length E.section + j)) ≡ cap_corner E i j
  unfolding extrusion_corner texture_of cap_corner
  corner_cap l = rw (le-ltb k ((length E.spine - 1) * (length E.section - 1)) l, add_comm (i * length E.section) j, column_of (length E.section) j i h) refl

-- ---- faces

module _ (E : Extrusion) (hm : 2 ≤ length E.section) where
  made : ℕ → List ℕ → Face
  made k ps = map (λ (p : ℕ). extrusion_corner E k (use_of p)) ps

  quad_made : (k i j : ℕ) → k < (length E.spine - 1) * (length E.section - 1) → j + 1 < length E.section → made k (quad (point_number (length E.section)) i j) ≡ quad (side_corner E) i j
  unfolding made quad
  quad_made k i j h l =
      let a = corner_side E k i j (omega arith) h in
      let b = corner_side E k i (j + 1) l h in
      let c = corner_side E k (i + 1) (j + 1) l h in
      let d = corner_side E k (i + 1) j (omega arith) h in
      λ t. a t ∷ b t ∷ c t ∷ d t ∷ []

  sides_made : map_n made 0 (side_points (length E.spine) (length E.section)) ≡ sides E
  sides_made =
      let m : ℕ = length E.section in
      let w : ℕ = m - 1 in
      let s : ℕ = (length E.spine - 1) * w in
      ap (map_n made 0) (tabs_tab (quad (point_number m)) (length E.spine - 1) w (omega arith))
      ∙ map_n_tab made (λ k. quad (point_number m) (k / w) (k % w)) s 0
      ∙ tab_same (λ k. made k (quad (point_number m) (k / w) (k % w))) (λ k. quad (side_corner E) (k / w) (k % w)) s
      (λ k l. quad_made k (k / w) (k % w) l (let q : k % w < w = mod-lt k (omega arith) in omega arith))
      ∙ sym (sides_listed E hm)

  begin_made : (k : ℕ) → (length E.spine - 1) * (length E.section - 1) ≤ k → made k (reverse (tab (λ j. j) (cap_length E.section) 0)) ≡ reverse (cap_face E 0)
  unfolding made cap_face
  begin_made k h =
      let c : ℕ = cap_length E.section in
      let g : ℕ → Corner = λ p. extrusion_corner E k (use_of p) in
      ap (map g) (tab_reverse (λ j. j) c) ∙ map_tab (λ j. c - 1 - j) g c 0
      ∙ tab_same (λ j. g (c - 1 - j)) (λ j. cap_corner E 0 (c - 1 - j)) c
      (λ j l.
      let q : c - 1 - j < length E.section = omega (arith, cap_fits E) in
      let z : c - 1 - j ≡ 0 * length E.section + (c - 1 - j) = omega arith in
      ap g z ∙ corner_cap E k 0 (c - 1 - j) q h)
      ∙ sym (tab_reverse (cap_corner E 0) c)

  end_made : (k : ℕ) → (length E.spine - 1) * (length E.section - 1) ≤ k
      → made k (tab (λ j. (length E.spine - 1) * length E.section + j) (cap_length E.section) 0) ≡ cap_face E (length E.spine - 1)
  unfolding made cap_face
  end_made k h =
      let c : ℕ = cap_length E.section in
      let i : ℕ = length E.spine - 1 in
      let g : ℕ → Corner = λ p. extrusion_corner E k (use_of p) in
      map_tab (λ j. i * length E.section + j) g c 0
      ∙ tab_same (λ j. g (i * length E.section + j)) (cap_corner E i) c (λ j l. corner_cap E k i j (omega (arith, cap_fits E)) h)

  caps_made : map_n made ((length E.spine - 1) * (length E.section - 1))
      (begin_points E.head.begin_cap (cap_length E.section) ++ end_points E.head.end_cap ((length E.spine - 1) * length E.section) (cap_length E.section))
      ≡ caps E
  unfolding begin_points end_points caps map_n
  caps_made = go (has_cap E.head.begin_cap (cap_length E.section)) (has_cap E.head.end_cap (cap_length E.section))
    where
      s : ℕ
      s = (length E.spine - 1) * (length E.section - 1)

      X : List ℕ
      X = reverse (tab (λ j. j) (cap_length E.section) 0)

      Y : List ℕ
      Y = tab (λ j. (length E.spine - 1) * length E.section + j) (cap_length E.section) 0

      go : (a b : Bool) → map_n made s (if_wanted a X ++ if_wanted b Y) ≡ face_if a (reverse (cap_face E 0)) ++ face_if b (cap_face E (length E.spine - 1))
      go true true = λ t. begin_made s (omega arith) t ∷ end_made (suc s) (omega arith) t ∷ []
      go true false = λ t. begin_made s (omega arith) t ∷ []
      go false true = λ t. end_made s (omega arith) t ∷ []
      go false false = refl

  -- FORMAT 8.4: the faces are those listed
  pub faces_listed : extrusion_faces E
      ≡ faces_with (extrusion_corner E) (extrusion_listings (length E.spine) (length E.section) (cap_length E.section) E.head.begin_cap E.head.end_cap)
  unfolding extrusion_faces extrusion_listings face_points made
  faces_listed =
      let n : ℕ = length E.spine in
      let m : ℕ = length E.section in
      let c : ℕ = cap_length E.section in
      let C : List (List ℕ) = begin_points E.head.begin_cap c ++ end_points E.head.end_cap ((n - 1) * m) c in
      let l : 0 + length (side_points n m) ≡ (n - 1) * (m - 1) = zero-add (length (side_points n m)) ∙ ap length (tabs_tab (quad (point_number m)) (n - 1) (m - 1) (omega arith)) ∙ length_tab _ ((n - 1) * (m - 1)) 0 in
      sym (faces_of_lem (extrusion_corner E) 0 (side_points n m ++ C) ∙ map_n_append made 0 (side_points n m) C
      ∙ ap₂ (λ (x y : List Face). x ++ y) sides_made (ap (λ (k : ℕ). map_n made k C) l ∙ caps_made))

-- ---- of a block

by_section : (bs : List ℕ) (h : Header) → h ≡ header_of bs → (extrusion_of bs).section ≡ section_of bs h
unfolding extrusion_of
by_section bs h e = ap (section_of bs) (sym e)

module _ {bs : List ℕ} {h : Header} (G : Given bs h) where
  -- FORMAT 8.4: the faces of the block are those that `list_faces` lists
  pub block_listed : extrusion_faces (extrusion_of bs)
      ≡ faces_with (extrusion_corner (extrusion_of bs)) (extrusion_listings (spine_count h) (section_count h) (cap_length (section_of bs h)) h.begin_cap h.end_cap)
  block_listed =
      let E : Extrusion = extrusion_of bs in
      let n = sym (spine_long G) in
      let m = sym (section_long G) in
      let c : cap_length E.section ≡ cap_length (section_of bs h) = ap cap_length (by_section bs h G.head) in
      let d = head_is G in
      faces_listed E (let q = G.section in omega (arith, section_long G))
      ∙ (λ t. faces_with (extrusion_corner E) (extrusion_listings (n t) (m t) (c t) (d t).begin_cap (d t).end_cap))

  -- FORMAT 4: the tables' plan, from the sizes
  pub planned : {len : ℕ} {t : Plan} → Room len t → t.spots ≡ (extrusion_sizes bs h).points → t.count ≡ (extrusion_sizes bs h).corners
      → t.faces ≡ quad_count h + cap_count h (cap_length (section_of bs h)) → Planned h (cap_length (section_of bs h)) len t
  unfolding extrusion_sizes
  planned R s c f = record {
    room = R;
    spine = G.spine;
    section = G.section;
    fewer = rw (← by_section bs h G.head) (omega (arith, cap_fits (extrusion_of bs), section_long G));
    spots = s;
    count = c;
    faces = f;
  }
