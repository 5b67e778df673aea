use Rattle.block.specs.declared.crease.CreaseRule.TheVariants.{Own}
use Rattle.normals.specs.Written.{Begun}
use Rattle.normals.proofs.source.Source.own_normals.Given as goal

abbrev pub invariant-loop-k : goal.invariant-loop-k
invariant-loop-k l = Begun l.initial.floats l.floats l.self.tables.work.now l.self.tables.plan.now Own l.k
