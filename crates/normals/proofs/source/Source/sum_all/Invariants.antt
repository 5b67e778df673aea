use Rattle.mesh.specs.Normals.{sum_all}
use Rattle.normals.proofs.Walks.{Left}
use Rattle.normals.proofs.source.Source.sum_all.Given as goal

abbrev pub invariant-loop-g : goal.invariant-loop-g
invariant-loop-g l = Left sum_all l.self.tables.work.now l.self.tables.plan.now l.initial.s l.faces l.s l.g-index
