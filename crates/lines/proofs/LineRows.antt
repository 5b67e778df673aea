-- FORMAT 6.3: a line set by computation: over 3 points, the entries 0 1 -1 2 7 2 -7 0 -1 1 0 are a line from 0 to 1, on line 1 three corners that no line joins,
-- and on line 2 a line from 1 to 0.
use mathlib.Core.Path.{◌≡◌, refl}
use mathlib.Core.List.{List, [], ◌∷◌}
use Prim.Native.Nat.{ℕ}
use Rattle.block.specs.Runs.{ends_run, runs_from, runs}
use Rattle.lists.specs.Lists.{map_n, join_n}
use Rattle.mesh.specs.Lines.{somes}
use Rattle.mesh.specs.Sizes.{named}
use Rattle.lines.specs.Uses.{LineUse, use_of, run_uses, line_uses}
use Rattle.lines.specs.Steps.{vertex_at, corner_after, pairs, run_pairs}

sample : List ℕ
sample = 0 ∷ 1 ∷ 0xffff_ffff ∷ 2 ∷ 7 ∷ 2 ∷ 0xffff_fff9 ∷ 0 ∷ 0xffff_ffff ∷ 1 ∷ 0 ∷ []

corner : ℕ → ℕ → ℕ → LineUse
corner point place number = record { point = point; place = place; number = number }

sample_uses : line_uses 3 sample ≡ corner 0 0 0 ∷ corner 1 1 0 ∷ corner 2 3 1 ∷ corner 2 5 1 ∷ corner 0 7 1 ∷ corner 1 9 2 ∷ corner 0 10 2 ∷ []
unfolding line_uses run_uses somes map_n join_n use_of ends_run runs_from sample corner
sample_uses = refl

sample_pairs : run_pairs 3 (10 ∷ 11 ∷ 12 ∷ 12 ∷ 10 ∷ 11 ∷ 10 ∷ []) 0 (runs sample) ≡ 10 ∷ 11 ∷ 11 ∷ 10 ∷ []
unfolding run_pairs pairs vertex_at corner_after named ends_run runs_from sample
sample_pairs = refl
