-- FORMAT 4, 8.4: how many corners the faces have, and how many stand before each.
use mathlib.Core.Path.{◌≡◌, refl, sym, ap, ap₂, ◌∙◌}
use mathlib.Core.Bool.{Bool, true, false, cond}
use mathlib.Core.List.{List, [], ◌++◌, reverse}
use Prim.Native.Nat.{ℕ, zero, suc, ◌+◌, ◌-◌, ◌*◌, ◌≤◌, ◌<◌}
use native.Mathlib.Nat.{add-zero, mul_assoc, mul_comm}
use native.Mathlib.Numerals.{add-one}
use native.Mathlib.Omega.{arith}
use borrow.Author.Tests.{ltb-true, ltb-false, leb-true}
use lib.Dec.{ltb, leb}
use lib.ListN.{length, get_or, take, length-append, length-reverse, get_or-append}
use lib.Seq.{get_or-append-add, take-length}
use Rattle.lists.specs.Loops.{tab, All}
use Rattle.lists.proofs.Tabs.{length_tab, tab_at}
use Rattle.lists.specs.Lists.{flat, total}
use Rattle.mesh.specs.Quads.{quad}
use Rattle.mesh.specs.Extrusion.{has_cap, point_number}
use Rattle.std.specs.Int.{from_bool}
use Rattle.lists.proofs.Lists.{All_append, All_get_or}
use Rattle.lists.proofs.Totals.{flat_total, total_append, total_suc}
use Rattle.lists.proofs.Tests.{and_right}
use Rattle.lists.proofs.Rows.{tabs_tab, total_tabs}
use Rattle.extrusion.specs.Listings.{if_wanted, side_points, begin_points, end_points, face_points, size_at, start_at}
use Rattle.extrusion.proofs.Sides.{quad_length}

-- ---- how many stand before each

pub start_none : (s cap : ℕ) → 0 ≡ start_at s cap 0
unfolding start_at
start_none s cap = refl

pub start_more : (s cap j c k : ℕ) → c ≡ start_at s cap j → k ≡ size_at s cap j → c + k ≡ start_at s cap (j + 1)
unfolding start_at
start_more s cap j c k ec ek = rw (ec, ek, add-one) refl

pub start_suc : (s cap j : ℕ) → start_at s cap (suc j) ≡ start_at s cap j + size_at s cap j
unfolding start_at
start_suc s cap j = refl

start_up : (s cap j d : ℕ) → start_at s cap j ≤ start_at s cap (j + d)
start_up s cap j zero = rw add-zero (omega arith)
start_up s cap j (suc d) =
    let e : j + suc d ≡ suc (j + d) = omega arith in
    rw e (omega (arith, start_suc s cap (j + d), start_up s cap j d))

pub start_rises : (s cap j k : ℕ) → j ≤ k → start_at s cap j ≤ start_at s cap k
start_rises s cap j k h = let e : j + (k - j) ≡ k = omega arith in rw e at (start_up s cap j (k - j))

-- ---- of a list of lists

-- where every list has the size that is told, the totals are the places told
pub starts_total : (s cap : ℕ) (l : List (List ℕ)) → ((j : ℕ) → j < length l → length (get_or l j []) ≡ size_at s cap j) → (j : ℕ) → j ≤ length l
    → start_at s cap j ≡ total length (take j l)
unfolding total
starts_total s cap l h zero b = sym (start_none s cap)
starts_total s cap l h (suc j) b =
    start_suc s cap j ∙ ap₂ (λ (x y : ℕ). x + y) (starts_total s cap l h j (omega arith)) (sym (h j b)) ∙ sym (total_suc l j b)

-- ---- the faces

-- a cap that is there has three corners or more
pub three_there : (cap : ℕ) (w : Bool) → has_cap w cap ≡ true → 3 ≤ cap
three_there cap w q = leb-true 3 cap (and_right w (leb 3 cap) q)

module _ (n m cap : ℕ) (b e : Bool) where
  side_count_lem : 2 ≤ m → length (side_points n m) ≡ (n - 1) * (m - 1)
  side_count_lem h = ap length (tabs_tab (quad (point_number m)) (n - 1) (m - 1) (omega arith)) ∙ length_tab _ ((n - 1) * (m - 1)) 0

  one_length : {A : Type 0} (t : Bool) (x : A) → length (if_wanted t x) ≡ from_bool t
  one_length true x = refl
  one_length false x = refl

  caps_count : length (begin_points b cap ++ end_points e ((n - 1) * m) cap) ≡ from_bool (has_cap b cap) + from_bool (has_cap e cap)
  unfolding begin_points end_points
  caps_count =
      length-append (begin_points b cap) (end_points e ((n - 1) * m) cap)
      ∙ ap₂ (λ (x y : ℕ). x + y) (one_length (has_cap b cap) _) (one_length (has_cap e cap) _)

  pub faces_count : 2 ≤ m → length (face_points n m cap b e) ≡ (n - 1) * (m - 1) + (from_bool (has_cap b cap) + from_bool (has_cap e cap))
  unfolding face_points
  faces_count h =
      length-append (side_points n m) (begin_points b cap ++ end_points e ((n - 1) * m) cap) ∙ ap₂ (λ (x y : ℕ). x + y) (side_count_lem h) caps_count

  -- what holds of a cap that is there
  all_one : {A : Type 0} (Q : A → Type 0) (t : Bool) (x : A) → (t ≡ true → Q x) → All Q (if_wanted t x)
  all_one Q true x h = (h refl, tt)
  all_one Q false x h = tt

  begin_size : length (reverse (tab (λ j. j) cap 0)) ≡ cap
  begin_size = length-reverse (tab (λ j. j) cap 0) ∙ length_tab (λ j. j) cap 0

  end_size : length (tab (λ j. (n - 1) * m + j) cap 0) ≡ cap
  end_size = length_tab (λ j. (n - 1) * m + j) cap 0

  caps_sizes : All (λ (x : List ℕ). length x ≡ cap) (begin_points b cap ++ end_points e ((n - 1) * m) cap)
  unfolding begin_points end_points
  caps_sizes =
      All_append (λ (x : List ℕ). length x ≡ cap) (begin_points b cap) (end_points e ((n - 1) * m) cap)
      (all_one _ (has_cap b cap) _ (λ t. begin_size)) (all_one _ (has_cap e cap) _ (λ t. end_size))

  side_size : (j : ℕ) → 2 ≤ m → j < (n - 1) * (m - 1) → length (get_or (side_points n m) j []) ≡ 4
  side_size j h l =
      ap (λ (x : List (List ℕ)). length (get_or x j [])) (tabs_tab (quad (point_number m)) (n - 1) (m - 1) (omega arith))
      ∙ ap length (tab_at _ ((n - 1) * (m - 1)) j [] l) ∙ quad_length (point_number m) _ _

  pub face_size : 2 ≤ m → (j : ℕ) → j < length (face_points n m cap b e) → length (get_or (face_points n m cap b e) j []) ≡ size_at ((n - 1) * (m - 1)) cap j
  face_size h j l = go (ltb j ((n - 1) * (m - 1))) refl
    where
      C : List (List ℕ)
      C = begin_points b cap ++ end_points e ((n - 1) * m) cap

      go : (t : Bool) → ltb j ((n - 1) * (m - 1)) ≡ t → length (get_or (face_points n m cap b e) j []) ≡ cond t 4 cap
      go true q = unfold face_points in
          ap length (get_or-append (side_points n m) C [] j (rw (side_count_lem h) (ltb-true _ _ q))) ∙ side_size j h (ltb-true _ _ q)
      go false q = unfold face_points in
          let g : (n - 1) * (m - 1) ≤ j = ltb-false _ _ q in
          let d : j ≡ length (side_points n m) + (j - (n - 1) * (m - 1)) = omega (arith, side_count_lem h) in
          ap (λ (k : ℕ). length (get_or (side_points n m ++ C) k [])) d ∙ ap length (get_or-append-add (side_points n m) C (j - (n - 1) * (m - 1)) [])
          ∙ All_get_or (λ (x : List ℕ). length x ≡ cap) C caps_sizes [] (j - (n - 1) * (m - 1)) (omega (arith, faces_count h, caps_count))

  caps_three : (s t : Bool) → has_cap b cap ≡ s → has_cap e cap ≡ t → 0 < from_bool s + from_bool t → 3 ≤ cap
  caps_three true t p q h = three_there cap b p
  caps_three false true p q h = three_there cap e q
  caps_three false false p q h = absurd (let z : ⊥ = omega arith in z)

  -- every face has three corners or more
  pub face_full : 2 ≤ m → (j : ℕ) → j < length (face_points n m cap b e) → 3 ≤ length (get_or (face_points n m cap b e) j [])
  face_full h j l = go (ltb j ((n - 1) * (m - 1))) refl (face_size h j l)
    where
      go : (t : Bool) → ltb j ((n - 1) * (m - 1)) ≡ t → length (get_or (face_points n m cap b e) j []) ≡ cond t 4 cap → 3 ≤ length (get_or (face_points n m cap b e) j [])
      go true q s = omega arith
      go false q s =
          let g : (n - 1) * (m - 1) ≤ j = ltb-false _ _ q in
          omega (arith, caps_three (has_cap b cap) (has_cap e cap) refl refl (omega (arith, faces_count h)))

  -- each size added up
  one_total : (t : Bool) (x : List ℕ) → length x ≡ cap → total length (if_wanted t x) ≡ from_bool t * cap
  unfolding total
  one_total true x l = omega arith
  one_total false x l = omega arith

  two_caps : (s t : Bool) → from_bool s * cap + from_bool t * cap ≡ (from_bool s + from_bool t) * cap
  two_caps true true = omega arith
  two_caps true false = omega arith
  two_caps false true = omega arith
  two_caps false false = omega arith

  -- FORMAT 4: C
  pub corners_count : total length (face_points n m cap b e) ≡ 4 * ((n - 1) * (m - 1)) + (from_bool (has_cap b cap) + from_bool (has_cap e cap)) * cap
  unfolding face_points begin_points end_points
  corners_count =
      total_append length (side_points n m) (begin_points b cap ++ end_points e ((n - 1) * m) cap)
      ∙ ap₂ (λ (x y : ℕ). x + y)
      (total_tabs length (quad (point_number m)) 4 (quad_length (point_number m)) (n - 1) (m - 1) ∙ sym (mul_assoc (n - 1) (m - 1) 4) ∙ mul_comm ((n - 1) * (m - 1)) 4)
      (total_append length (begin_points b cap) (end_points e ((n - 1) * m) cap)
      ∙ ap₂ (λ (x y : ℕ). x + y) (one_total (has_cap b cap) _ begin_size) (one_total (has_cap e cap) _ end_size) ∙ two_caps (has_cap b cap) (has_cap e cap))

  pub flat_count : length (flat (face_points n m cap b e)) ≡ 4 * ((n - 1) * (m - 1)) + (from_bool (has_cap b cap) + from_bool (has_cap e cap)) * cap
  flat_count = flat_total (face_points n m cap b e) ∙ corners_count

  pub starts_are : 2 ≤ m → (j : ℕ) → j ≤ length (face_points n m cap b e) → start_at ((n - 1) * (m - 1)) cap j ≡ total length (take j (face_points n m cap b e))
  starts_are h = starts_total ((n - 1) * (m - 1)) cap (face_points n m cap b e) (face_size h)

  pub starts_last : 2 ≤ m → start_at ((n - 1) * (m - 1)) cap (length (face_points n m cap b e)) ≡ 4 * ((n - 1) * (m - 1)) + (from_bool (has_cap b cap) + from_bool (has_cap e cap)) * cap
  starts_last h =
      starts_are h (length (face_points n m cap b e)) (omega arith)
      ∙ ap (total length) (take-length (face_points n m cap b e)) ∙ corners_count
