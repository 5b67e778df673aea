use Rattle.lists.specs.Parts.{Kept}
use Rattle.normals.specs.Rows.{SummedTo}
use Rattle.normals.proofs.points.sum_points.Given as goal

abbrev pub invariant-loop-p : goal.invariant-loop-p
invariant-loop-p l = Kept l.t.sums l.initial.work l.work × SummedTo l.initial.work l.work l.t l.p
