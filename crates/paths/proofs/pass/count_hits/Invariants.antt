use Rattle.paths.proofs.Hitting.{Counting}
use Rattle.paths.proofs.pass.count_hits.Given as goal

abbrev pub invariant-loop-j : goal.invariant-loop-j
invariant-loop-j l = Counting l.rays l.tri l.m l.j l.count
