use mathlib.Core.Path.{◌≡◌}
use lib.ListN.{length}
use Rattle.block.proofs.Walks.{Walks}
use Rattle.tables.specs.Listed.{Beside}
use Rattle.primitiveset.specs.Passing.{Planned, Passed}
use Rattle.primitiveset.proofs.listing.list_primitives.Given as goal

abbrev pub invariant-loop-start : goal.invariant-loop-start
invariant-loop-start l =
    let w = l.start-iterator in record {
      planned : Planned l.points l.x.g l.coord (length l.work) l.t;
      beside : Beside l.t l.initial.work l.work;
      walk : Walks l.coord w.list.now w.start;
      kind : w.g ≡ l.x.g;
      passed : Passed l.points l.x.g l.coord l.work l.t w.start l.p;
    }
