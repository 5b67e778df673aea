use mathlib.Core.List.{[]}
use Prim.Native.Nat.{◌-◌}
use Rattle.block.specs.declared.crease.CreaseRule.TheVariants.{Bound}
use Rattle.normals.specs.Sums.{Stopped, Partly}
use Rattle.normals.proofs.source.Source.near_normals.Given as goal

abbrev pub invariant-loop-c : goal.invariant-loop-c
invariant-loop-c l =
    Stopped l.self.tables.work.now l.self.tables.plan.now l.bound l.s × Partly l.initial.floats l.floats l.self.tables.work.now l.self.tables.plan.now (Bound l.bound) l.c []

abbrev pub decreases-loop-c : goal.decreases-loop-c
decreases-loop-c l = l.self.tables.plan.now.count - l.c
