use Rattle.block.specs.Walk.{rest}
use Rattle.lines.proofs.Pairs.{Lining}
use Rattle.lines.proofs.pairing.put_lines.Given as goal

abbrev pub invariant-loop-run : goal.invariant-loop-run
invariant-loop-run l = Lining l.points l.coord l.numbers l.initial.indices (rest l.run-iterator) l.w l.indices
