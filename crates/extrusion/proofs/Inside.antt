-- FORMAT 8.4: the corners of every face name points below n * m.
use mathlib.Core.Path.{sym, subst}
use mathlib.Core.Bool.{Bool, true, false}
use mathlib.Core.List.{List, ◌++◌, reverse}
use Prim.Native.Nat.{ℕ, ◌+◌, ◌-◌, ◌*◌, ◌≤◌, ◌<◌}
use native.Mathlib.Omega.{arith}
use lib.ListN.{length, get_or}
use Rattle.lists.specs.Loops.{tab, All}
use Rattle.lists.specs.Lists.{flat}
use Rattle.mesh.specs.Quads.{quad}
use Rattle.mesh.specs.Extrusion.{has_cap, point_number}
use Rattle.lists.proofs.Lists.{All_append, All_get_or, All_by, All_flat}
use Rattle.lists.proofs.Totals.{tab_reverse}
use Rattle.mesh.proofs.Within.{All_tabs}
use Rattle.lists.proofs.Numbers.{cell}
use Rattle.extrusion.specs.Listings.{if_wanted, side_points, begin_points, end_points, face_points}

-- point j of row i, of n rows of m
spot_below : (n m i j : ℕ) → i < n → j < m → point_number m i j < n * m
spot_below n m i j h k = let e = cell j i m n k h in omega arith

module _ (n m cap : ℕ) (b e : Bool) (hn : 2 ≤ n) (hc : cap ≤ m) where
  abbrev pub Below : List ℕ → Type 0
  Below l = All (λ (p : ℕ). p < n * m) l

  quad_below : (i j : ℕ) → i < n - 1 → j < m - 1 → Below (quad (point_number m) i j)
  unfolding quad
  quad_below i j p q = (
    spot_below n m i j (omega arith) (omega arith),
    (spot_below n m i (j + 1) (omega arith) (omega arith), (spot_below n m (i + 1) (j + 1) (omega arith) (omega arith), (spot_below n m (i + 1) j (omega arith) (omega arith), tt))),
  )

  sides_below : All Below (side_points n m)
  sides_below = All_tabs Below (quad (point_number m)) (n - 1) (m - 1) quad_below

  one_below : (t : Bool) (x : List ℕ) → Below x → All Below (if_wanted t x)
  one_below true x h = (h, tt)
  one_below false x h = tt

  begin_below : Below (reverse (tab (λ j. j) cap 0))
  begin_below =
      subst Below (sym (tab_reverse (λ j. j) cap))
      (All_by (λ (p : ℕ). p < n * m) (λ j. cap - 1 - j) cap (λ j q. let c = spot_below n m 0 (cap - 1 - j) (omega arith) (omega arith) in omega arith))

  end_below : Below (tab (λ j. (n - 1) * m + j) cap 0)
  end_below = All_by (λ (p : ℕ). p < n * m) (λ j. (n - 1) * m + j) cap (λ j q. spot_below n m (n - 1) j (omega arith) (omega arith))

  pub faces_below : All Below (face_points n m cap b e)
  unfolding face_points begin_points end_points
  faces_below =
      All_append Below (side_points n m) (begin_points b cap ++ end_points e ((n - 1) * m) cap) sides_below
      (All_append Below (begin_points b cap) (end_points e ((n - 1) * m) cap) (one_below (has_cap b cap) _ begin_below) (one_below (has_cap e cap) _ end_below))

  pub point_below : (c : ℕ) → c < length (flat (face_points n m cap b e)) → get_or (flat (face_points n m cap b e)) c 0 < n * m
  point_below c h =
      All_get_or (λ (p : ℕ). p < n * m) (flat (face_points n m cap b e)) (All_flat (λ (p : ℕ). p < n * m) (face_points n m cap b e) faces_below) 0 c h
