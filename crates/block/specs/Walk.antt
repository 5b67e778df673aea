-- A walk over the runs of an index list, one after another. FORMAT 6.1.
use Rattle.std.specs.Borrow.{Bor}
use Rattle.std.specs.Prelude.{Option, Some, None, List, [], ◌∷◌, ℕ, ◌/◌, ◌<◌, ◌≡◌, length}
use Rattle.bits.specs.Bits.{entries}
use Rattle.block.specs.declared.runs.Runs.{Runs}
use Rattle.block.specs.Runs.{Run, run_of, runs_left, RunPart, next_start}

-- a walk that stands at entry s of the list bs passes the part r, and then stands at entry s' of bs'
pub record Passes (bs : List ℕ) (s : ℕ) (r bs' : List ℕ) (s' : ℕ) : Type 0 where
  pub list : bs' ≡ bs
  pub there : s < length bs / 4
  pub next : s' ≡ next_start s r

-- what is left of a walk over the runs
abbrev pub rest : Runs → List Run
rest w = runs_left (entries w.list.now) w.start

-- the run r at entry s of the list, and the walk after it
pub record RunGiven (old new : Runs) (s : ℕ) (r : List ℕ) : Type 0 where
  pub first : rest old ≡ run_of s (entries r) ∷ rest new
  pub here : s ≡ old.start
  pub part : RunPart old.list.now old.start r
  pub passes : Passes old.list.now old.start r new.list.now new.start

-- what a step gives: the next run, or none beyond the list
abbrev pub GivesRun : Runs → Option (ℕ × Bor (List ℕ)) → Runs → Type 0
GivesRun old None new = rest old ≡ []
GivesRun old (Some x) new = RunGiven old new x.0 x.1.now
