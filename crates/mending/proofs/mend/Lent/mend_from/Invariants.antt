use Prim.Native.Nat.{◌-◌}
use Rattle.mending.specs.Mend.{Served, Mends}
use Rattle.mending.proofs.mend.Lent.mend_from.Given as goal

abbrev pub invariant-loop-k : goal.invariant-loop-k
invariant-loop-k l =
    Mends l.self.positions.now l.self.indices.now l.self.count l.v (l.k - l.v) l.initial.normals l.normals
    × Served l.made l.self.positions.now l.self.indices.now l.self.count l.table
