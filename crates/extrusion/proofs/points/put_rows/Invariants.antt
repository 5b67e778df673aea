use Rattle.extrusion.proofs.Walking.{Walked}
use lib.ListN.{length}
use Rattle.extrusion.proofs.points.put_rows.Given as goal

abbrev pub invariant-loop-i : goal.invariant-loop-i
invariant-loop-i l = Walked l.spine.points l.section l.scales l.turns (length l.spine.points) l.initial.work l.k l.i l.work l.y l.prev
