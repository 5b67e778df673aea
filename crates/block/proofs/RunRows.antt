-- Runs and kept faces of a few index lists, computed. Entries are written as signed numbers. FORMAT 6.1 and 6.2.
use Prim.Native.Nat.{ℕ, suc, ◌-◌, ◌^◌}
use mathlib.Core.Path.{◌≡◌, refl}
use mathlib.Core.Bool.{true, false}
use mathlib.Core.List.{List, [], ◌∷◌, map}
use lib.IntN.{ℤ, pos, negsuc, neg_ℤ}
use Rattle.lists.specs.Lists.{all_below}
use Rattle.block.specs.Runs.{ends_run, Run, run_of, runs_from, runs, kept, faces, corners, triangles, sum_over, totals}

unfoldable pub word_of : ℤ → ℕ
word_of (pos n) = n
word_of (negsuc n) = 2 ^ 32 - suc n

abbrev pub runs_of : List ℤ → List Run
runs_of zs = runs (map word_of zs)

-- 0 1 2 -1 3 -7: runs at 0 and at 4, 0 1 2 and 3 -7
pub row_runs : runs_of (pos 0 ∷ pos 1 ∷ pos 2 ∷ neg_ℤ (pos 1) ∷ pos 3 ∷ neg_ℤ (pos 7) ∷ [])
    ≡ run_of 0 (0 ∷ 1 ∷ 2 ∷ []) ∷ run_of 4 (map word_of (pos 3 ∷ neg_ℤ (pos 7) ∷ [])) ∷ []
unfolding ends_run runs_from word_of
row_runs = refl

-- the last run needs no closing entry
pub row_open : runs_of (pos 0 ∷ neg_ℤ (pos 1) ∷ pos 2 ∷ []) ≡ run_of 0 (0 ∷ []) ∷ run_of 2 (2 ∷ []) ∷ []
unfolding ends_run runs_from word_of
row_open = refl

-- -1 -1: two empty runs
pub row_empty : runs_of (neg_ℤ (pos 1) ∷ neg_ℤ (pos 1) ∷ []) ≡ run_of 0 [] ∷ run_of 1 [] ∷ []
unfolding ends_run runs_from word_of
row_empty = refl

pub row_none : runs_of [] ≡ []
unfolding runs_from
row_none = refl

-- of 4 points
pub row_kept : (kept 4 (0 ∷ 1 ∷ 3 ∷ []) ≡ true) × (kept 4 (0 ∷ 1 ∷ 4 ∷ []) ≡ false) × (kept 4 (0 ∷ 1 ∷ []) ≡ false)
unfolding kept all_below
row_kept = (refl, refl, refl)

-- a square, a run that is lost, a triangle
pub row_totals : totals 4 (runs (0 ∷ 1 ∷ 2 ∷ 3 ∷ 0xffff_ffff ∷ 0 ∷ 1 ∷ 0xffff_ffff ∷ 0 ∷ 1 ∷ 2 ∷ [])) ≡ record { faces = 2; corners = 7; triangles = 3 }
unfolding ends_run runs_from kept all_below faces corners triangles sum_over
row_totals = refl

-- 0 1 2 -2 0 1 2 -1 0 1 2: no value below -1 parts faces; the face that names it is skipped, and the next counts on
pub row_below : totals 4 (runs_of (pos 0 ∷ pos 1 ∷ pos 2 ∷ neg_ℤ (pos 2) ∷ pos 0 ∷ pos 1 ∷ pos 2 ∷ neg_ℤ (pos 1) ∷ pos 0 ∷ pos 1 ∷ pos 2 ∷ []))
    ≡ record { faces = 1; corners = 3; triangles = 1 }
unfolding ends_run runs_from word_of kept all_below faces corners triangles sum_over
row_below = refl
