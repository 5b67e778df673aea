use mathlib.Core.Path.{◌≡◌}
use Rattle.std.specs.Slice.Iter.{chunks_exact_rest, chunks_exact_size}
use Rattle.bits.specs.Bits.{entries}
use Rattle.lines.proofs.Counting.{Counting}
use Rattle.lines.proofs.totals.run_totals.Given as goal

abbrev pub invariant-loop-e : goal.invariant-loop-e
invariant-loop-e l = (chunks_exact_size l.e-iterator ≡ 4) × Counting l.points (entries l.run) (entries (chunks_exact_rest l.e-iterator)) l.after l.corners l.lines
