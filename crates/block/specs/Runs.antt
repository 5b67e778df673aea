-- The runs of an index list, and the faces that are kept. FORMAT 6.1 and 6.2.
use Rattle.std.specs.Prelude.{ℕ, suc, ◌+◌, ◌-◌, ◌*◌, ◌/◌, ◌≤◌, ◌≡◌, Bool, true, false, ◌&&◌, cond, List, [], ◌∷◌, ◌++◌, eqb, leb, ltb, length, take, drop}
use Rattle.lists.specs.Lists.{all_below}
use Rattle.bits.specs.Bits.{entries}
use Rattle.block.specs.declared.runs.Totals.{Totals}

-- FORMAT 6.1: -1 ends a run, and nothing else does
unfoldable pub ends_run : ℕ → Bool
ends_run w = eqb w 0xffff_ffff

-- where a run starts, and its entries without the one that ends it
pub record Run : Type 0 where
  pub start : ℕ
  pub items : List ℕ

abbrev pub run_of : ℕ → List ℕ → Run
run_of s ws = record { start = s; items = ws }

-- the runs with an entry put before them, at place s
abbrev pub before : Bool → ℕ → ℕ → List Run → List Run
before true s w rs = run_of s [] ∷ rs
before false s w [] = run_of s (w ∷ []) ∷ []
before false s w (r ∷ rs) = run_of s (w ∷ r.items) ∷ rs

-- FORMAT 6.1: the runs of the entries ws, of which the first has the place s
unfoldable pub runs_from : ℕ → List ℕ → List Run
runs_from s [] = []
runs_from s (w ∷ ws) = before (ends_run w) s w (runs_from (suc s) ws)

abbrev pub runs : List ℕ → List Run
runs ws = runs_from 0 ws

-- FORMAT 6.1, the loop of split_runs, whatever ends a run: its start and k, the entries held from start up to k, and those that are left
unfoldable pub split_from : (ℕ → Bool) → ℕ → ℕ → List ℕ → List ℕ → List Run
split_from ends start k held [] = cond (ltb start k) (run_of start held ∷ []) []
split_from ends start k held (w ∷ ws) =
    cond (ends w) (run_of start held ∷ split_from ends (suc k) (suc k) [] ws) (split_from ends start (suc k) (held ++ w ∷ []) ws)

-- the runs that start at entry s or after it
abbrev pub runs_left : List ℕ → ℕ → List Run
runs_left ws s = runs_from s (drop s ws)

-- how many entries stand before the first that ends a run
unfoldable pub run_length : List ℕ → ℕ
run_length [] = 0
run_length (w ∷ ws) = cond (ends_run w) 0 (suc (run_length ws))

-- the entries of the run that starts at entry s
abbrev pub run_at : List ℕ → ℕ → List ℕ
run_at ws s = take (run_length (drop s ws)) (drop s ws)

-- and its bytes
abbrev pub run_bytes : List ℕ → ℕ → List ℕ
run_bytes bs s = take (4 * run_length (drop s (entries bs))) (drop (4 * s) bs)

-- r is the part of the list bs that holds the run at entry s; `within` is what a loop over the runs needs of its length
pub record RunPart (bs : List ℕ) (s : ℕ) (r : List ℕ) : Type 0 where
  pub bytes : r ≡ run_bytes bs s
  pub items : entries r ≡ run_at (entries bs) s
  pub within : length r / 4 ≤ length bs / 4 - s

-- where the run after r, which starts at entry s, starts
abbrev pub next_start : ℕ → List ℕ → ℕ
next_start s r = s + length r / 4 + 1

-- FORMAT 6.2: a face is kept if it has 3 or more entries, each of a point
unfoldable pub kept : ℕ → List ℕ → Bool
kept p ws = leb 3 (length ws) && all_below p ws

-- FORMAT 6.2: whether a run is a face, as a number; its corners, and its triangles
unfoldable pub faces : ℕ → List ℕ → ℕ
faces p ws = cond (kept p ws) 1 0

unfoldable pub corners : ℕ → List ℕ → ℕ
corners p ws = cond (kept p ws) (length ws) 0

unfoldable pub triangles : ℕ → List ℕ → ℕ
triangles p ws = cond (kept p ws) (length ws - 2) 0

-- the sum of f over the runs
unfoldable pub sum_over : (List ℕ → ℕ) → List Run → ℕ
sum_over f [] = 0
sum_over f (r ∷ rs) = f r.items + sum_over f rs

-- FORMAT 6.2: what the kept faces have together
abbrev pub totals : ℕ → List Run → Totals
totals p rs = record { faces = sum_over (faces p) rs; corners = sum_over (corners p) rs; triangles = sum_over (triangles p) rs }
