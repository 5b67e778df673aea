use mathlib.Core.Path.{◌≡◌}
use Rattle.std.specs.Slice.Iter.{chunks_exact_rest, chunks_exact_size}
use Rattle.bits.specs.Bits.{entries}
use Rattle.lines.proofs.Pairs.{Pairing}
use Rattle.lines.proofs.pairing.put_run.Given as goal

abbrev pub invariant-loop-e : goal.invariant-loop-e
invariant-loop-e l =
    (chunks_exact_size l.e-iterator ≡ 4) × Pairing l.points (entries l.run) l.numbers l.initial.w l.initial.indices (entries (chunks_exact_rest l.e-iterator)) l.w l.indices
