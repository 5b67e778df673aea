use mathlib.Core.Path.{◌≡◌}
use Rattle.std.specs.Iterator.Adapters.{enumerate_source, enumerate_count}
use Rattle.std.specs.Slice.Iter.{chunks_exact_rest, chunks_exact_size}
use Rattle.bits.specs.Bits.{entries}
use Rattle.lines.proofs.Entries.{RunListing}
use Rattle.lines.proofs.listing.list_run.Given as goal

abbrev pub invariant-loop-j : goal.invariant-loop-j
invariant-loop-j l =
    let s = enumerate_source l.j-iterator in
    let k = enumerate_count l.j-iterator in
    (chunks_exact_size s ≡ 4) × RunListing l.points l.line l.start (entries l.run) l.t l.initial.c.0 l.initial.work k (entries (chunks_exact_rest s)) l.c.0 l.work
