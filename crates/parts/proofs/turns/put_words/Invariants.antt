use Rattle.std.proofs.Common.{List, ℕ, length, ◌≤◌}
use Rattle.lists.proofs.Pieces.{Uneven}
use Rattle.parts.specs.Turns.{Gives}
use Rattle.parts.proofs.turns.put_words.Given as goal

abbrev pub invariant-loop-i : goal.invariant-loop-i
invariant-loop-i g l = (f : ℕ → List ℕ) → Gives g.R.AsSlice.items (goal.F-post g l.row) l.n l.at (λ m. m ≤ length l.initial.words) f → Uneven f l.n l.initial.words l.at l.i l.next l.words
