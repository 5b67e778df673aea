-- FORMAT 5: how many indices the kept faces make.
use mathlib.Core.Path.{◌≡◌, ap, ◌∙◌}
use mathlib.Core.Bool.{Bool}
use mathlib.Core.List.{List}
use Prim.Native.Nat.{ℕ, zero, suc, ◌+◌, ◌-◌, ◌*◌, ◌≤◌, ◌<◌}
use native.Mathlib.Omega.{arith}
use lib.ListN.{length, length-append}
use Rattle.lists.specs.Loops.{tab}
use Rattle.lists.specs.Lists.{flat}
use Rattle.tables.specs.declared.layout.Plan.{Plan}
use Rattle.tables.specs.Soups.{start_in, Sound}
use Rattle.faces.specs.Indices.{one_face, all_faces}
use Rattle.faces.proofs.Pieces.{length_one}

-- each kept face of n corners, 3 or more, makes 3 (n - 2) indices
module _ {w : List ℕ} {t : Plan} (S : Sound w t) (ccw convex : Bool) (long : (g : ℕ) → g < t.faces → start_in w t g + 3 ≤ start_in w t (suc g)) where
  sum_from : (k g : ℕ) → g + k ≡ t.faces → length (flat (tab (one_face w t ccw convex) k g)) + 3 * start_in w t g + 6 * k ≡ 3 * t.count
  unfolding tab flat
  sum_from zero g h =
      let g-last : g ≡ t.faces = omega arith in
      let e : start_in w t g ≡ t.count = ap (start_in w t) g-last ∙ S.last in
      omega arith
  sum_from (suc k) g h =
      let a = length-append (one_face w t ccw convex g) (flat (tab (one_face w t ccw convex) k (suc g))) in
      let b = length_one S ccw convex g (omega arith) in
      let r = long g (omega arith) in
      let i = sum_from k (suc g) (omega arith) in
      omega (arith, a, b, r, i)

  pub all_sized : length (all_faces w t ccw convex) ≡ 3 * (t.count - 2 * t.faces)
  unfolding all_faces
  all_sized = let r = sum_from t.faces 0 (omega arith) in omega (arith, r, S.first)
