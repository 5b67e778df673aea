-- A walk over the stretches of an index list, one after another. FORMAT 6.4.
use Rattle.std.specs.Borrow.{Bor}
use Rattle.std.specs.Prelude.{Option, Some, None, List, [], ◌∷◌, ℕ, ◌≡◌}
use Rattle.bits.specs.Bits.{entries}
use Rattle.block.specs.Runs.{Run, run_of}
use Rattle.block.specs.Walk.{Passes}
use Rattle.primitives.specs.declared.stretches.Stretches.{Stretches}
use Rattle.primitives.specs.Stretches.{stretches_left, StretchPart}

-- what is left of it
abbrev pub rest : Stretches → List Run
rest w = stretches_left w.g (entries w.list.now) w.start

-- the stretch r at entry s of the list, and the walk after it
pub record StretchGiven (old new : Stretches) (s : ℕ) (r : List ℕ) : Type 0 where
  pub first : rest old ≡ run_of s (entries r) ∷ rest new
  pub kind : new.g ≡ old.g
  pub here : s ≡ old.start
  pub part : StretchPart old.g old.list.now old.start r
  pub passes : Passes old.list.now old.start r new.list.now new.start

-- what a step gives: the next stretch, or none beyond the list
abbrev pub GivesStretch : Stretches → Option (ℕ × Bor (List ℕ)) → Stretches → Type 0
GivesStretch old None new = rest old ≡ []
GivesStretch old (Some x) new = StretchGiven old new x.0 x.1.now
