-- FORMAT 11: the keys that are read from the tables are those of the soup's corners, face by face and corner by corner.
use mathlib.Core.Path.{◌≡◌, refl, sym, ap, ap₂, ◌∙◌, subst}
use mathlib.Core.Bool.{Bool, false, cond}
use mathlib.Core.Logic.{◌⊎◌, inl, inr, ⊎_elim}
use mathlib.Core.List.{List, [], ◌++◌, map}
use Prim.Native.Nat.{ℕ, suc, ◌+◌, ◌-◌, ◌≤◌, ◌<◌}
use native.Mathlib.Nat.{add-zero, zero-add}
use native.Mathlib.Omega.{arith}
use lib.ListN.{length, get_or, take, drop, length-map}
use lib.Seq.{ext_get_or, get_or-take, get_or-drop}
use lib.Ieee.{Float, binary32, to_bits}
use Rattle.std.specs.Prelude.{Option, None, Some, is_some}
use Rattle.std.specs.Option.{option_map_or}
use Rattle.bits.specs.declared.Words2.{Words2}
use Rattle.bits.specs.declared.Words3.{Words3}
use Rattle.bits.specs.declared.Words4.{Words4}
use Rattle.math.specs.Vector.{zero_f}
use Rattle.block.specs.declared.stream.Stream.{Stream}
use Rattle.block.specs.Stream.{get3_at, get4_at}
use Rattle.lists.specs.Loops.{tab}
use Rattle.lists.proofs.Tabs.{length_tab, get_or_tab}
use Rattle.lists.specs.Lists.{join_n}
use Rattle.mesh.specs.Words.{words2, words3, words4, no2, no3, no4, bits}
use Rattle.mesh.specs.Soup.{Corner, no_corner, Face, Frame}
use Rattle.mesh.specs.Normals.{generated, corner_normal}
use Rattle.mesh.specs.Vertices.{Key, no_key, key_of, keys_of}
use Rattle.lists.proofs.Lists.{get_or_map_lt}
use Rattle.mesh.proofs.Corners.{length_keys, get_or_keys}
use Rattle.tables.specs.declared.layout.Plan.{Plan}
use Rattle.lists.specs.Parts.{seg}
use Rattle.lists.proofs.Pieces.{join_tab}
use Rattle.tables.specs.Soups.{point_in, place_in, owner_in, start_in, Holds}
use Rattle.tables.specs.Listed.{Use, Listing, no_use, no_listing, faces_with, uses_at, Listed}
use Rattle.tables.proofs.Held.{faces_held, start_held}
use Rattle.tables.proofs.Listings.{listed_long, listed_corner}
use Rattle.vertices.specs.declared.places.Widths.{Widths}
use Rattle.vertices.specs.Places.{normal_words, colour_words, texture_words, colour_start, texture_start}
use Rattle.vertices.specs.Search.{two, three, four, corner_key}
use Rattle.corners.specs.declared.attributes.Attributes.{Attributes}
use Rattle.corners.specs.Laid.{tables_of}
use Rattle.corners.specs.Corner.{Lent, point_at, place_at, number_at, texture_at, generated_at, normal_at, colour_at, words_at, key_in}
use Rattle.lists.proofs.Numbers.{by_width}
use Rattle.soups.specs.Keyed.{Reads, Textures}

-- a soup that the tables hold, and a key for each corner
module _ {w : List ℕ} {t : Plan} {F : Frame} {fs : List Face} (H : Holds w t F fs) (k : ℕ → Key)
    (same : (j i : ℕ) → j < t.faces → i < length (get_or fs j []) → k (start_in w t j + i) ≡ key_of F fs j (get_or fs j []) (get_or (get_or fs j []) i no_corner)) where
  face_keys : (j : ℕ) → j < t.faces → keys_of F fs j (get_or fs j []) ≡ tab k (start_in w t (suc j) - start_in w t j) (start_in w t j)
  face_keys j h =
      let f = get_or fs j [] in
      let a = start_in w t j in
      let n = start_in w t (suc j) - a in
      let s = start_held H j h in
      let l : length (keys_of F fs j f) ≡ n = length_keys F fs j f ∙ omega arith in
      ext_get_or no_key (keys_of F fs j f) (tab k n a) (l ∙ sym (length_tab k n a)) (λ i b.
      let b' : i < length f = let q = length_keys F fs j f in omega arith in
      get_or_keys F fs j f i b' ∙ sym (same j i h b') ∙ sym (get_or_tab k n a i no_key (omega arith)))

  pub keys_of_lem : tab k t.count 0 ≡ join_n (keys_of F fs) 0 fs
  keys_of_lem =
      let S = H.sound in
      let l = faces_held H in
      let r = join_tab (keys_of F fs) k (start_in w t) [] 0 fs
      (λ j b. subst (λ (m : ℕ). start_in w t m ≤ start_in w t (suc m)) (sym (zero-add j)) (S.rises j (omega arith)))
      (λ j b. subst (λ (m : ℕ). keys_of F fs m (get_or fs j []) ≡ tab k (start_in w t (suc m) - start_in w t m) (start_in w t m)) (sym (zero-add j)) (face_keys j (omega arith))) in
      let e : start_in w t (0 + length fs) ≡ t.count = ap (start_in w t) (zero-add (length fs) ∙ l) ∙ S.last in
      let z : start_in w t (0 + length fs) - start_in w t 0 ≡ t.count = let q = S.first in omega arith in
      sym (r.1 ∙ ap₂ (tab k) z S.first)

-- ---- a corner's key

-- the words of a corner's key
abbrev words_of_key : Words3 → Words4 → Words2 → List ℕ
words_of_key n c x = words3 n ++ words4 c ++ words2 x

normal_part : (n : Words3) (c : Words4) (x : Words2) (u : ℕ) → u ≡ normal_words → three (seg (words_of_key n c x) 0 u) ≡ n
unfolding seg
normal_part n c x u e = rw e refl

colour_part : (n : Words3) (c q : Words4) (x : Words2) (u : ℕ) → ((u ≡ colour_words) × (q ≡ c)) ⊎ ((u ≡ 0) × (q ≡ no4)) → four (seg (words_of_key n c x) colour_start u) ≡ q
unfolding seg
colour_part n c q x u h = by_width (λ (k : ℕ). four (seg (words_of_key n c x) colour_start k)) colour_words q u h

texture_part : (n : Words3) (c : Words4) (x q : Words2) (u : ℕ) → ((u ≡ texture_words) × (q ≡ x)) ⊎ ((u ≡ 0) × (q ≡ no2)) → two (seg (words_of_key n c x) texture_start u) ≡ q
unfolding seg
texture_part n c x q u h = by_width (λ (k : ℕ). two (seg (words_of_key n c x) texture_start k)) texture_words q u h

-- three floats from m on whose words are those of v
pub three_at : (e : List Float) (m : ℕ) (v : Words3) → map (to_bits binary32) (take 3 (drop m e)) ≡ words3 v
    → record { x = to_bits binary32 (get_or e m zero_f); y = to_bits binary32 (get_or e (m + 1) zero_f); z = to_bits binary32 (get_or e (m + 2) zero_f) } ≡ v
three_at e m v h = λ i. record { x = (ap (λ (k : ℕ). to_bits binary32 (get_or e k zero_f)) (sym (add-zero m)) ∙ at 0 (omega arith)) i; y = at 1 (omega arith) i; z = at 2 (omega arith) i }
  where
    l : length (take 3 (drop m e)) ≡ 3
    l = sym (length-map (take 3 (drop m e)) (to_bits binary32)) ∙ ap length h

    at : (k : ℕ) → k < 3 → to_bits binary32 (get_or e (m + k) zero_f) ≡ get_or (words3 v) k 0
    at k b =
        ap (to_bits binary32) (sym (get_or-take 3 (drop m e) k zero_f b ∙ get_or-drop m e k zero_f))
        ∙ sym (get_or_map_lt (to_bits binary32) (take 3 (drop m e)) k 0 zero_f (omega (arith, l))) ∙ ap (λ (r : List ℕ). get_or r k 0) h

-- the corners of listed faces, which read their attributes as the code does
module _ {L : Lent} {a : Attributes} {widths : Widths} {ring : ℕ} {w : List ℕ} {t : Plan} {ls : List Listing} {corner : ℕ → Use → Corner}
    (E : Listed w t ls) (R : Reads L a widths ring corner) (T : Textures widths w t ls corner) {F : Frame} (H : Holds w t F (faces_with corner ls)) (supplied : F.supplied ≡ is_some a.normals)
    (numbers : (j i : ℕ) → j < t.faces → i < length (uses_at ls j) → owner_in w t (start_in w t j + i) ≡ (get_or ls j no_listing).number)
    (normals : is_some a.normals ≡ false → (j i : ℕ) → j < t.faces → i < length (get_or (faces_with corner ls) j [])
    → generated_at L.floats (start_in w t j + i) ≡ corner_normal F (faces_with corner ls) j (get_or (faces_with corner ls) j []) (get_or (get_or (faces_with corner ls) j []) i no_corner)) where
  module _ (j i : ℕ) (h : j < t.faces) (b : i < length (get_or (faces_with corner ls) j [])) where
    c : ℕ
    c = start_in w t j + i

    n : ℕ
    n = (get_or ls j no_listing).number

    u : Use
    u = get_or (uses_at ls j) i no_use

    f : Face
    f = get_or (faces_with corner ls) j []

    q : Corner
    q = get_or f i no_corner

    used : i < length (uses_at ls j)
    unfolding f
    used = let e = listed_long E corner j h in omega arith

    is : q ≡ corner n u
    unfolding q f n u
    is = listed_corner E corner j i h used

    point_is : point_at w (tables_of t) c ≡ q.point
    unfolding point_at tables_of point_in c n u
    point_is = E.points j i h used ∙ sym (R.point n u).0 ∙ sym (ap (λ (x : Corner). x.point) is)

    place_is : place_at w (tables_of t) c ≡ u.place
    unfolding place_at tables_of place_in c u
    place_is = E.places j i h used

    number_is : number_at w (tables_of t) c ≡ n
    unfolding number_at tables_of owner_in c n
    number_is = numbers j i h used

    normal_is : normal_at L a w (tables_of t) c ≡ corner_normal F (faces_with corner ls) j f q
    unfolding normal_at corner_normal c f q
    normal_is = go a.normals refl
      where
        read : Stream → Words3
        read s = get3_at L.block L.coord s (place_at w (tables_of t) c) (number_at w (tables_of t) c) no3

        go : (o : Option Stream) → a.normals ≡ o → normal_at L a w (tables_of t) c ≡ corner_normal F (faces_with corner ls) j f q
        go (Some s) e =
            ap (λ (o : Option Stream). option_map_or read o (generated_at L.floats c)) e
            ∙ (λ z. get3_at L.block L.coord s (place_is z) (number_is z) no3)
            ∙ sym (R.given s e n u) ∙ sym (ap (λ (x : Corner). x.given) is)
            ∙ sym (ap (λ (r : Bool). cond r q.given (bits (generated F (faces_with corner ls) j f q.gather))) (supplied ∙ ap is_some e))
        go None e = ap (λ (o : Option Stream). option_map_or read o (generated_at L.floats c)) e ∙ normals (ap is_some e) j i h b

    words_normal : three (seg (words_at L a w (tables_of t) c) 0 widths.normal) ≡ corner_normal F (faces_with corner ls) j f q
    unfolding words_at
    words_normal = normal_part (normal_at L a w (tables_of t) c) (colour_at L a w (tables_of t) c) (texture_at w (tables_of t) c) widths.normal R.normal ∙ normal_is

    colour_is : four (seg (words_at L a w (tables_of t) c) colour_start widths.colour) ≡ q.colour
    unfolding words_at colour_at
    colour_is =
        colour_part (normal_at L a w (tables_of t) c) (colour_at L a w (tables_of t) c) q.colour (texture_at w (tables_of t) c) widths.colour
        (⊎_elim
        (λ e. inl (e.0, ap (λ (x : Corner). x.colour) is ∙ e.1 n u ∙ (λ z. get4_at L.block L.coord a.colours a.alpha (sym place_is z) (sym number_is z) a.missing)))
        (λ e. inr (e.0, ap (λ (x : Corner). x.colour) is ∙ e.1 n u))
        R.colour)

    texture_is : two (seg (words_at L a w (tables_of t) c) texture_start widths.texture) ≡ q.texture
    unfolding words_at c n u
    texture_is =
        texture_part (normal_at L a w (tables_of t) c) (colour_at L a w (tables_of t) c) (texture_at w (tables_of t) c) q.texture widths.texture
        (⊎_elim
        (λ e. inl (e.0, ap (λ (x : Corner). x.texture) is ∙ sym (e.1.at j i h used)))
        (λ e. inr (e.0, ap (λ (x : Corner). x.texture) is ∙ e.1 n u))
        T)

    key_is : key_in L a widths w (tables_of t) c ≡ key_of F (faces_with corner ls) j f q
    unfolding key_in corner_key key_of
    key_is = λ z. record { point = point_is z; normal = words_normal z; colour = colour_is z; texture = texture_is z }

  -- FORMAT 11: so the keys of all corners, in order, are those of the soup
  pub keys_held : tab (key_in L a widths w (tables_of t)) t.count 0 ≡ join_n (keys_of F (faces_with corner ls)) 0 (faces_with corner ls)
  unfolding c f q
  keys_held = keys_of_lem H (key_in L a widths w (tables_of t)) (λ j i h b. key_is j i h b)
