-- What the slices hold is the list of the vertices, row by row; one more vertex is one more row.
use mathlib.Core.Path.{◌≡◌, refl, sym, ap, ◌∙◌}
use mathlib.Core.List.{List, [], ◌∷◌, ◌++◌, map, append-nil, append_assoc}
use Prim.Native.Nat.{ℕ, zero, suc, ◌+◌, ◌*◌, ◌≤◌, ◌<◌}
use native.Mathlib.Nat.{not-suc-le-zero, le_of_suc-le-suc, mul-suc, mul-le-mul_left, le_trans}
use native.Mathlib.Omega.{arith}
use lib.ListN.{length, get_or, set, take, drop, length-append, length-drop, length-map}
use lib.Seq.{drop-cons, set_at, append_snoc, take-append_seam, take-length, length-take-le, get_or-take, get_or-drop}
use Rattle.lists.specs.Lists.{flat}
use Rattle.mesh.specs.Words.{words2, words3, words4, point_words}
use Rattle.mesh.specs.Vertices.{Key}
use Rattle.lists.proofs.Lists.{middle, in_flat, length_words, length_filled, three_at}
use Rattle.lists.proofs.Splices.{grow}
use Rattle.vertices.specs.declared.places.Widths.{Widths}
use Rattle.lists.specs.Parts.{seg, spliced}
use Rattle.vertices.specs.Places.{normal_words, colour_words, texture_words}
use Rattle.vertices.specs.Hash.{normal_of, colour_of, texture_of}
use Rattle.vertices.specs.Adding.{position_of}

-- ---- rows of n words, one for each key

module _ (g : Key → List ℕ) (n : ℕ) (wide : (k : Key) → length (g k) ≡ n) where
  rows_snoc : (ks : List Key) (k : Key) → flat (map g (ks ++ (k ∷ []))) ≡ flat (map g ks) ++ g k
  unfolding flat
  rows_snoc [] k = append-nil (g k)
  rows_snoc (x ∷ ks) k = ap (λ (l : List ℕ). g x ++ l) (rows_snoc ks k) ∙ sym (append_assoc (g x) (flat (map g ks)) (g k))

  -- a slice with room for m rows keeps its length
  pub rows_stay : (z l : List ℕ) (ks : List Key) (m : ℕ) → l ≡ flat (map g ks) ++ drop (n * length ks) z → length ks ≤ m → n * m ≤ length z → length l ≡ length z
  rows_stay z l ks m e h r = ap length e ∙ length_filled z (flat (map g ks)) (n * length ks) (length_words g n wide ks) (le_trans (mul-le-mul_left n h) r)

  -- row i is the i-th key's
  pub row_at : (l r : List ℕ) (ks : List Key) (i : ℕ) (d : Key) → l ≡ flat (map g ks) ++ r → i < length ks → seg l (n * i) n ≡ g (get_or ks i d)
  unfolding seg
  row_at l r ks i d e h =
      let p = flat (map g ks) in
      let b : n * i + n ≤ length p = rw (length_words g n wide ks, ← mul-suc n i) (mul-le-mul_left n h) in
      ap (λ (x : List ℕ). take n (drop (n * i) x)) e
      ∙ middle (n * i) n (length p) (p ++ r) p b (take-append_seam p r ∙ sym (take-length p))
      ∙ in_flat g n wide ks i d h

  -- a row put after the rows
  pub row_grow : (z l : List ℕ) (ks : List Key) (k : Key) (m : ℕ) → length ks ≡ m → l ≡ flat (map g ks) ++ drop (n * length ks) z
      → spliced l (n * m) (g k) ≡ flat (map g (ks ++ (k ∷ []))) ++ drop (n * length (ks ++ (k ∷ []))) z
  row_grow z l ks k m q e =
      let p = flat (map g ks) in
      let a : length p ≡ n * m = length_words g n wide ks ∙ ap (λ (j : ℕ). n * j) q in
      let b : length (ks ++ (k ∷ [])) ≡ suc m = length-append ks (k ∷ []) ∙ omega arith in
      grow p z l (g k) (n * m) (e ∙ ap (λ (j : ℕ). p ++ drop (n * j) z) q) a ∙ rw (wide k, b, mul-suc n m, rows_snoc ks k) refl

-- ---- the points of the keys, one word each

point_at : (ks : List Key) (r : List ℕ) (i : ℕ) (d : Key) → i < length ks → get_or (map (λ (k : Key). k.point) ks ++ r) i 0 ≡ (get_or ks i d).point
point_at [] r i d l = absurd (not-suc-le-zero l)
point_at (k ∷ ks) r zero d l = refl
point_at (k ∷ ks) r (suc i) d l = point_at ks r i d (le_of_suc-le-suc l)

pub source_at : (l r : List ℕ) (ks : List Key) (i : ℕ) (d : Key) → l ≡ map (λ (k : Key). k.point) ks ++ r → i < length ks → get_or l i 0 ≡ (get_or ks i d).point
source_at l r ks i d e h = ap (λ (x : List ℕ). get_or x i 0) e ∙ point_at ks r i d h

map_snoc : (ks : List Key) (k : Key) → map (λ (k : Key). k.point) (ks ++ (k ∷ [])) ≡ map (λ (k : Key). k.point) ks ++ (k.point ∷ [])
map_snoc [] k = refl
map_snoc (x ∷ ks) k = ap (λ (l : List ℕ). x.point ∷ l) (map_snoc ks k)

pub source_grow : (z l : List ℕ) (ks : List Key) (k : Key) (m : ℕ) → length ks ≡ m → l ≡ map (λ (k : Key). k.point) ks ++ drop (length ks) z → m < length l
    → set l m k.point ≡ map (λ (k : Key). k.point) (ks ++ (k ∷ [])) ++ drop (length (ks ++ (k ∷ []))) z
source_grow z l ks k m q e h =
    let p = map (λ (k : Key). k.point) ks in
    let lp : length p ≡ m = length-map ks (λ (k : Key). k.point) ∙ q in
    let b : length (ks ++ (k ∷ [])) ≡ suc m = length-append ks (k ∷ []) ∙ omega arith in
    let x : l ≡ p ++ drop m z = e ∙ ap (λ (j : ℕ). p ++ drop j z) q in
    let y : length l ≡ length p + length (drop m z) = ap length x ∙ length-append p (drop m z) in
    let g : m < length z = omega (arith, length-drop m z) in
    rw (x, b, map_snoc ks k, drop-cons z m 0 g)
    (set_at p (get_or z m 0) (drop (suc m) z) k.point m lp ∙ sym (append_snoc p k.point (drop (suc m) z)))

-- ---- how long the rows are

pub position_wide : (pts : List ℕ) (k : Key) → length (position_of pts k) ≡ 3
unfolding position_of
position_wide pts k = refl

pub normal_wide : (w : Widths) → w.normal ≤ normal_words → (k : Key) → length (normal_of w k) ≡ w.normal
unfolding normal_of
normal_wide w h k = length-take-le w.normal (words3 k.normal) h

pub colour_wide : (w : Widths) → w.colour ≤ colour_words → (k : Key) → length (colour_of w k) ≡ w.colour
unfolding colour_of
colour_wide w h k = length-take-le w.colour (words4 k.colour) h

pub texture_wide : (w : Widths) → w.texture ≤ texture_words → (k : Key) → length (texture_of w k) ≡ w.texture
unfolding texture_of
texture_wide w h k = length-take-le w.texture (words2 k.texture) h

-- ---- a point's words in the working slice

pub point_words_lem : (m : List ℕ) (p n v : ℕ) → v < n → p + 3 * n ≤ length m → seg m (p + 3 * v) 3 ≡ words3 (point_words (seg m p (3 * n)) v)
unfolding seg point_words
point_words_lem m p n v h l =
    let at : (i : ℕ) → i < 3 * n → get_or (take (3 * n) (drop p m)) i 0 ≡ get_or m (p + i) 0 = λ i b. get_or-take (3 * n) (drop p m) i 0 b ∙ get_or-drop p m i 0 in
    let e : v * 3 ≡ 3 * v = omega arith in
    let e1 : p + (3 * v + 1) ≡ p + 3 * v + 1 = omega arith in
    let e2 : p + (3 * v + 2) ≡ p + 3 * v + 2 = omega arith in
    three_at 0 m (p + 3 * v) (omega arith)
    ∙ rw (e, at (3 * v) (omega arith), at (3 * v + 1) (omega arith), at (3 * v + 2) (omega arith), e1, e2)
