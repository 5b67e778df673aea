use Rattle.paths.specs.Pass.{step_at}
use lib.ListN.{length}
use Rattle.lists.specs.Updates.{changed}
use Rattle.lists.proofs.Loops.{Running}
use Rattle.paths.proofs.pass.mark.Given as goal

abbrev pub invariant-loop-j : goal.invariant-loop-j
invariant-loop-j l = Running (changed 0 (step_at l.rays l.tri l.number)) (length l.initial.answers) l.initial.answers l.j l.answers
