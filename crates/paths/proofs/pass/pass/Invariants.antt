use mathlib.Core.Path.{◌≡◌}
use Prim.Native.Nat.{◌/◌}
use lib.ListN.{length}
use Rattle.std.specs.Iterator.Adapters.{enumerate_source, enumerate_count}
use Rattle.std.specs.Slice.Iter.{chunks_exact_rest, chunks_exact_size}
use Rattle.lists.proofs.Chunked.{Chunked}
use Rattle.paths.specs.Pass.{turn_of}
use Rattle.lists.proofs.Loops.{Running}
use Rattle.paths.proofs.pass.pass.Given as goal

abbrev pub invariant-loop-t : goal.invariant-loop-t
invariant-loop-t l =
    let s = enumerate_source l.t-iterator in
    let k = enumerate_count l.t-iterator in
    (chunks_exact_size s ≡ 3) × Chunked 3 l.indices k (chunks_exact_rest s)
    × Running (turn_of l.positions l.indices l.rays (length l.initial.answers)) (length l.indices / 3) l.initial.answers k l.answers
