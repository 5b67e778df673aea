-- FORMAT 4, 6.2: C, N and the number of kept faces of a face set.
use mathlib.Core.Path.{◌≡◌, refl}
use mathlib.Core.Bool.{Bool, true, false}
use mathlib.Core.List.{List, [], ◌∷◌}
use Prim.Native.Nat.{ℕ, ◌+◌, ◌-◌, ◌*◌, ◌≤◌}
use native.Mathlib.Omega.{arith}
use Rattle.block.specs.Runs.{Run, kept, faces, corners, triangles, sum_over}
use Rattle.block.proofs.RunLaws.{kept_long, face_kept, face_lost}

-- of one run
run_counts : (p : ℕ) (ws : List ℕ) → (faces p ws * 3 ≤ corners p ws) × (corners p ws ≡ triangles p ws + 2 * faces p ws)
run_counts p ws = go (kept p ws) refl
  where
    go : (b : Bool) → kept p ws ≡ b → (faces p ws * 3 ≤ corners p ws) × (corners p ws ≡ triangles p ws + 2 * faces p ws)
    go true e = let l = kept_long p ws e in let k = face_kept p ws e in (omega (arith, l, k), omega (arith, l, k))
    go false e = let k = face_lost p ws e in (omega (arith, k), omega (arith, k))

-- a kept face has three corners or more
pub faces_third : (p : ℕ) (rs : List Run) → sum_over (faces p) rs * 3 ≤ sum_over (corners p) rs
unfolding sum_over
faces_third p [] = omega arith
faces_third p (r ∷ rs) = omega (arith, (run_counts p r.items).0, faces_third p rs)

-- and two triangles fewer than corners
corners_sum : (p : ℕ) (rs : List Run) → sum_over (corners p) rs ≡ sum_over (triangles p) rs + 2 * sum_over (faces p) rs
unfolding sum_over
corners_sum p [] = refl
corners_sum p (r ∷ rs) = omega (arith, (run_counts p r.items).1, corners_sum p rs)

pub indices_sum : (p : ℕ) (rs : List Run) → 3 * sum_over (triangles p) rs ≡ 3 * (sum_over (corners p) rs - 2 * sum_over (faces p) rs)
indices_sum p rs = let e = corners_sum p rs in omega arith
