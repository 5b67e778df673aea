use mathlib.Core.List.{List}
use Prim.Native.Nat.{ℕ}
use lib.Ieee.{Float}
use Rattle.block.specs.declared.crease.CreaseRule.TheVariants.{Bound}
use Rattle.normals.specs.Rows.{Summed}
use Rattle.normals.specs.Sums.{Told, Partly}
use Rattle.normals.proofs.source.Source.pass_alone.Given as goal

abbrev pub invariant-loop-k : goal.invariant-loop-k
invariant-loop-k l =
    Told l.self.tables.work.now l.self.tables.plan.now l.bound l.before × Told l.self.tables.work.now l.self.tables.plan.now l.bound l.last
    × Summed l.self.tables.work.now l.self.tables.plan.now (Bound l.bound) l.floats
    × ((d : List Float) (hs : List ℕ) → Partly d l.initial.floats l.self.tables.work.now l.self.tables.plan.now (Bound l.bound) l.c hs
    → Partly d l.floats l.self.tables.work.now l.self.tables.plan.now (Bound l.bound) l.k hs)
