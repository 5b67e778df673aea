-- FORMAT 8.4: laws of the points of the faces, as they are written.
use mathlib.Core.Path.{◌≡◌, refl, sym, ap, ◌∙◌}
use mathlib.Core.Bool.{Bool, true, false, cond}
use mathlib.Core.List.{List, [], ◌∷◌, ◌++◌, append_assoc, append-nil, reverse}
use Prim.Native.Nat.{ℕ, suc, ◌+◌, ◌-◌, ◌*◌, ◌≤◌, ◌<◌}
use native.Mathlib.Nat.{suc-mul, mul-le-mul_right}
use native.Mathlib.Omega.{arith}
use lib.ListN.{length, length-append}
use Rattle.lists.specs.Loops.{tab}
use Rattle.lists.specs.Lists.{flat, tabs}
use Rattle.mesh.specs.Quads.{quad}
use Rattle.mesh.specs.Extrusion.{has_cap, point_number}
use Rattle.lists.proofs.Tabs.{length_tab}
use Rattle.lists.proofs.Totals.{tab_reverse}
use Rattle.block.specs.Edition.{most}
use Rattle.lists.specs.Parts.{spliced}
use Rattle.extrusion.specs.Listings.{if_wanted, side_points, begin_points, end_points, face_points}
use Rattle.lists.proofs.Splices.{splice_more}
use Rattle.lists.proofs.Pieces.{flat_append, length_pieces, flat_rows}

-- four points, stored
pub quad_put : (m i j k : ℕ) (l w : List ℕ) (a b c d a₂ b₂ c₂ d₂ : ℕ) → a ≡ point_number m i j → b ≡ point_number m i (j + 1) → c ≡ point_number m (i + 1) (j + 1) → d ≡ point_number m (i + 1) j
    → a₂ ≡ a → b₂ ≡ b → c₂ ≡ c → d₂ ≡ d → w ≡ spliced l k (a₂ ∷ b₂ ∷ c₂ ∷ d₂ ∷ []) → w ≡ spliced l k (quad (point_number m) i j)
unfolding quad
quad_put m i j k l w a b c d a₂ b₂ c₂ d₂ ea eb ec ed na nb nc nd ew = rw (ew, na, nb, nc, nd, ea, eb, ec, ed) refl

pub quad_length : {A : Type 0} (f : ℕ → ℕ → A) (i j : ℕ) → length (quad f i j) ≡ 4
unfolding quad
quad_length f i j = refl

-- the sides of a row
pub row_width : (m i : ℕ) → length (flat (tab (quad (point_number m) i) (m - 1) 0)) ≡ (m - 1) * 4
row_width m i = length_pieces (quad (point_number m) i) 4 (quad_length (point_number m) i) (m - 1)

pub sides_are : (n m : ℕ) → flat (tab (λ i. flat (tab (quad (point_number m) i) (m - 1) 0)) (n - 1) 0) ≡ flat (side_points n m)
unfolding tabs
sides_are n m = flat_rows (quad (point_number m)) (m - 1) (n - 1) 0

-- points of row i and of the next
pub rows_most : (n m i : ℕ) → n * m ≤ most → i < n - 1 → i * m + m + m ≤ most
rows_most n m i h l =
    let p : suc (suc i) * m ≤ n * m = mul-le-mul_right m (omega arith) in
    omega (arith, suc-mul (suc i) m, suc-mul i m)

-- ---- caps

module _ (w : Bool) (cap : ℕ) where
  -- the corners f 0, f 1, .. of a cap, where there is one, and how many they are
  abbrev pub cap_of : (ℕ → ℕ) → List ℕ
  cap_of f = cond (has_cap w cap) (tab f cap 0) []

  abbrev pub cap_size : ℕ
  cap_size = cond (has_cap w cap) cap 0

  cap_long : (f : ℕ → ℕ) → length (cap_of f) ≡ cap_size
  cap_long f = go (has_cap w cap)
    where
      go : (t : Bool) → length (cond t (tab f cap 0) []) ≡ cond t cap 0
      go true = length_tab f cap 0
      go false = refl

  begin_are : flat (begin_points w cap) ≡ cap_of (λ j. cap - 1 - j)
  unfolding begin_points flat
  begin_are = go (has_cap w cap)
    where
      go : (t : Bool) → flat (if_wanted t (reverse (tab (λ j. j) cap 0))) ≡ cond t (tab (λ j. cap - 1 - j) cap 0) []
      go true = append-nil (reverse (tab (λ j. j) cap 0)) ∙ tab_reverse (λ j. j) cap
      go false = refl

  end_are : (p : ℕ) → flat (end_points w p cap) ≡ cap_of (λ j. p + j)
  unfolding end_points flat
  end_are p = go (has_cap w cap)
    where
      go : (t : Bool) → flat (if_wanted t (tab (λ j. p + j) cap 0)) ≡ cond t (tab (λ j. p + j) cap 0) []
      go true = append-nil (tab (λ j. p + j) cap 0)
      go false = refl

-- ---- all faces

flat_faces : (n m cap : ℕ) (b e : Bool)
    → flat (face_points n m cap b e) ≡ flat (side_points n m) ++ (cap_of b cap (λ j. cap - 1 - j) ++ cap_of e cap (λ j. (n - 1) * m + j))
unfolding face_points
flat_faces n m cap b e =
    flat_append (side_points n m) (begin_points b cap ++ end_points e ((n - 1) * m) cap)
    ∙ ap (λ (r : List ℕ). flat (side_points n m) ++ r) (flat_append (begin_points b cap) (end_points e ((n - 1) * m) cap))
    ∙ (λ t. flat (side_points n m) ++ (begin_are b cap t ++ end_are e cap ((n - 1) * m) t))

pub sides_width : (n m : ℕ) → length (flat (side_points n m)) ≡ (n - 1) * ((m - 1) * 4)
sides_width n m = sym (ap length (sides_are n m)) ∙ length_pieces (λ i. flat (tab (quad (point_number m) i) (m - 1) 0)) ((m - 1) * 4) (row_width m) (n - 1)

-- the room of each part
module _ (n m cap : ℕ) (b e : Bool) (k len : ℕ) (h : k + length (flat (face_points n m cap b e)) ≤ len) where
  whole_room : k + ((n - 1) * ((m - 1) * 4) + (cap_size b cap + cap_size e cap)) ≤ len
  whole_room =
      let B = cap_of b cap (λ j. cap - 1 - j) in
      let E = cap_of e cap (λ j. (n - 1) * m + j) in
      let z = ap length (flat_faces n m cap b e) ∙ length-append (flat (side_points n m)) (B ++ E) in
      omega (arith, sides_width n m, length-append B E, z, cap_long b cap (λ j. cap - 1 - j), cap_long e cap (λ j. (n - 1) * m + j))

  pub sides_room : k + (n - 1) * ((m - 1) * 4) ≤ len
  sides_room = omega (arith, whole_room)

  pub begin_room : k + (n - 1) * ((m - 1) * 4) + cap_size b cap ≤ len
  begin_room = omega (arith, whole_room)

  pub end_room : (a : ℕ) → a ≡ k + (n - 1) * ((m - 1) * 4) + cap_size b cap → a + cap_size e cap ≤ len
  end_room a q = omega (arith, whole_room)

  pub uses_put : (l x y z : List ℕ) (a : ℕ) → len ≡ length l → x ≡ spliced l k (flat (side_points n m))
      → y ≡ spliced x (k + (n - 1) * ((m - 1) * 4)) (cap_of b cap (λ j. cap - 1 - j)) → a ≡ k + (n - 1) * ((m - 1) * 4) + cap_size b cap
      → z ≡ spliced y a (cap_of e cap (λ j. (n - 1) * m + j)) → z ≡ spliced l k (flat (face_points n m cap b e))
  uses_put l x y z a el ex ey ea ez =
      let S = flat (side_points n m) in
      let B = cap_of b cap (λ j. cap - 1 - j) in
      let E = cap_of e cap (λ j. (n - 1) * m + j) in
      let w = sides_width n m in
      let r = whole_room in
      let s = length-append S B in
      let u = cap_long b cap (λ j. cap - 1 - j) in
      let v = cap_long e cap (λ j. (n - 1) * m + j) in
      let yy : y ≡ spliced l k (S ++ B) = ey ∙ ap (λ (v : List ℕ). spliced v (k + (n - 1) * ((m - 1) * 4)) B) ex ∙ splice_more l k (k + (n - 1) * ((m - 1) * 4)) S B (omega arith) (omega arith) in
      ez ∙ ap (λ (v : List ℕ). spliced v a E) yy ∙ splice_more l k a (S ++ B) E (omega arith) (omega arith)
      ∙ ap (spliced l k) (append_assoc S B E ∙ sym (flat_faces n m cap b e))
