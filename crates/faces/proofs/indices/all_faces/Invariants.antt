use Rattle.faces.proofs.Turning.{Facing}
use Rattle.faces.proofs.indices.all_faces.Given as goal

abbrev pub invariant-loop-g : goal.invariant-loop-g
invariant-loop-g l = Facing l.initial.work l.t l.ccw l.convex l.initial.indices l.indices l.work l.initial.floats l.floats l.g l.at
