use mathlib.Core.Path.{◌≡◌}
use mathlib.Core.Bool.{true}
use Rattle.mesh.specs.Normals.{sum_near}
use Rattle.normals.proofs.Walks.{Left}
use Rattle.normals.proofs.sums.Near.sum_near.Given as goal

abbrev pub invariant-loop-x : goal.invariant-loop-x
invariant-loop-x l =
    Left (sum_near l.self.bound l.own l.u) l.self.source.tables.work.now l.self.source.tables.plan.now l.initial.s.total l.faces l.s.total l.x-index
    × (l.s.alone ≡ true → l.s.total ≡ l.initial.s.total)
