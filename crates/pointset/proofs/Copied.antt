-- FORMAT 17.5: points and colours one after the other are the words of their lists.
use mathlib.Core.Path.{◌≡◌, ap, ◌∙◌}
use mathlib.Core.Bool.{true}
use mathlib.Core.List.{List, [], ◌∷◌, map}
use Prim.Native.Nat.{ℕ, suc, ◌+◌, ◌*◌, ◌≤◌}
use native.Mathlib.Nat.{mul_comm}
use native.Mathlib.Numerals.{add-one}
use native.Mathlib.Omega.{arith}
use lib.ListN.{get_or, length, take}
use Rattle.lists.specs.Lists.{flat}
use Rattle.lists.specs.Loops.{tab}
use Rattle.lists.proofs.Pieces.{flat_table}
use Rattle.lists.proofs.Tabs.{tab_take, map_tab}
use Rattle.mesh.specs.Words.{words3, words4, point_words}
use Rattle.pointset.specs.PointSet.{colour_at}

module _ (l : List ℕ) (n : ℕ) where
  pub points_copied : n * 3 ≤ length l → flat (map words3 (tab (point_words l) n 0)) ≡ take (3 * n) l
  unfolding point_words tab
  points_copied room =
      let three : (k : ℕ) → words3 (point_words l k) ≡ tab (λ i. get_or l i 0) 3 (k * 3) =
      λ k. let e : k * 3 + 2 ≡ suc (suc (k * 3)) = omega arith in λ i. get_or l (k * 3) 0 ∷ get_or l (add-one (k * 3) i) 0 ∷ get_or l (e i) 0 ∷ [] in
      ap flat (map_tab (point_words l) words3 n 0) ∙ flat_table (λ i. get_or l i 0) 3 (λ k. words3 (point_words l k)) three n
      ∙ tab_take 0 l (n * 3) room ∙ ap (λ (m : ℕ). take m l) (mul_comm n 3)

  pub colours_copied : n * 4 ≤ length l → flat (map words4 (tab (colour_at true l) n 0)) ≡ take (4 * n) l
  unfolding colour_at tab
  colours_copied room =
      let four : (k : ℕ) → words4 (colour_at true l k) ≡ tab (λ i. get_or l i 0) 4 (k * 4) =
      λ k. let e : k * 4 + 2 ≡ suc (suc (k * 4)) = omega arith in let f : k * 4 + 3 ≡ suc (suc (suc (k * 4))) = omega arith in
      λ i. get_or l (k * 4) 0 ∷ get_or l (add-one (k * 4) i) 0 ∷ get_or l (e i) 0 ∷ get_or l (f i) 0 ∷ [] in
      ap flat (map_tab (colour_at true l) words4 n 0) ∙ flat_table (λ i. get_or l i 0) 4 (λ k. words4 (colour_at true l k)) four n
      ∙ tab_take 0 l (n * 4) room ∙ ap (λ (m : ℕ). take m l) (mul_comm n 4)
