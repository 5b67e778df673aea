use Prim.Native.Nat.{◌≤◌}
use Rattle.std.specs.Iterator.Adapters.{enumerate_source, enumerate_count}
use Rattle.block.specs.Walk.{rest}
use Rattle.block.proofs.Walks.{Walks}
use Rattle.lines.proofs.Entries.{Listing}
use Rattle.lines.proofs.listing.list_entries.Given as goal

abbrev pub invariant-loop-line : goal.invariant-loop-line
invariant-loop-line l =
    let w = enumerate_source l.line-iterator in
    let n = enumerate_count l.line-iterator in record {
      walk : Walks l.coord w.list.now w.start;
      few : n ≤ w.start;
      listing : Listing l.points l.coord l.t l.initial.work n (rest w) l.c.0 l.work;
    }
