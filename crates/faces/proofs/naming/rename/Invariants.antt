use Rattle.faces.proofs.Threes.{Renaming}
use Rattle.faces.proofs.naming.rename.Given as goal

abbrev pub invariant-loop-i : goal.invariant-loop-i
invariant-loop-i l = Renaming l.ccw l.named l.initial.indices l.indices l.at l.n l.i
