use mathlib.Core.Path.{◌≡◌}
use Prim.Native.Nat.{◌/◌}
use lib.ListN.{length}
use Rattle.std.specs.Iterator.Adapters.{enumerate_source, enumerate_count}
use Rattle.std.specs.Slice.Iter.{chunks_exact_rest, chunks_exact_size}
use Rattle.lists.proofs.Chunked.{Chunked}
use Rattle.paths.proofs.Loading.{Loading}
use Rattle.paths.proofs.rays.load.Given as goal

abbrev pub invariant-loop-j : goal.invariant-loop-j
invariant-loop-j l =
    let s = enumerate_source l.j-iterator in
    let k = enumerate_count l.j-iterator in
    (chunks_exact_size s ≡ 6) × Chunked 6 l.paths k (chunks_exact_rest s)
    × Loading l.paths (length l.paths / 6) l.initial.rays k l.rays
