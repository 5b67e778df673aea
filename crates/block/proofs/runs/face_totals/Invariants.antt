use Rattle.block.proofs.Tally.{Tallied}
use Rattle.block.proofs.runs.face_totals.Given as goal

abbrev pub invariant-loop-run : goal.invariant-loop-run
invariant-loop-run l = Tallied l.points l.list l.run-iterator l.faces l.corners l.triangles
