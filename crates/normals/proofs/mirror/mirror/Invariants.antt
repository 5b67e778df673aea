use Rattle.normals.specs.Rows.{Mirrored}
use Rattle.normals.proofs.mirror.mirror.Given as goal

abbrev pub invariant-loop-g : goal.invariant-loop-g
invariant-loop-g l = Mirrored l.floats l.x.work.now l.x.plan.now l.g
