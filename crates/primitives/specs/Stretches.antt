-- FORMAT 6.4: the stretches one after another, as a loop meets them.
use Rattle.std.specs.Prelude.{ℕ, ◌/◌, ◌-◌, ◌≤◌, ◌≡◌, cond, List, [], ◌∷◌, ltb, length, drop}
use Rattle.bits.specs.Bits.{entries}
use Rattle.block.specs.declared.topology.Topology.{Topology}
use Rattle.block.specs.declared.topology.Topology.TheVariants.{Triangles, Fans, Strips, Quads}
use Rattle.block.specs.Runs.{Run, run_of, run_at, runs_left}

-- the entries of the stretch that starts at entry s: what is left of triangles and quads, a run of fans and strips
unfoldable pub stretch_at : Topology → List ℕ → ℕ → List ℕ
stretch_at Triangles ws s = drop s ws
stretch_at Fans ws s = run_at ws s
stretch_at Strips ws s = run_at ws s
stretch_at Quads ws s = drop s ws

-- all that is left, where there is any
unfoldable pub whole_left : List ℕ → ℕ → List Run
whole_left ws s = cond (ltb s (length ws)) (run_of s (drop s ws) ∷ []) []

-- the stretches that start at entry s or after it
unfoldable pub stretches_left : Topology → List ℕ → ℕ → List Run
stretches_left Triangles ws s = whole_left ws s
stretches_left Fans ws s = runs_left ws s
stretches_left Strips ws s = runs_left ws s
stretches_left Quads ws s = whole_left ws s

-- r is the part of the list bs that holds the stretch at entry s
pub record StretchPart (g : Topology) (bs : List ℕ) (s : ℕ) (r : List ℕ) : Type 0 where
  pub items : entries r ≡ stretch_at g (entries bs) s
  pub within : length r / 4 ≤ length bs / 4 - s
