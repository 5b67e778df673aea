use Rattle.text.proofs.Pieces.{Going}
use Rattle.sinetable.specs.Lines.{entry_line}
use Rattle.sinetable.proofs.lines.put_table.Given as goal

abbrev pub invariant-loop-k : goal.invariant-loop-k
invariant-loop-k l = Going entry_line 11 1025 l.initial.w l.w l.k
