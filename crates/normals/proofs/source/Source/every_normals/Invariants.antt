use Rattle.block.specs.declared.crease.CreaseRule.TheVariants.{Every}
use Rattle.normals.specs.Written.{Begun}
use Rattle.normals.proofs.source.Source.every_normals.Given as goal

abbrev pub invariant-loop-k : goal.invariant-loop-k
invariant-loop-k l = Begun l.initial.floats l.floats l.self.tables.work.now l.self.tables.plan.now Every l.k
