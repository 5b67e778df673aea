use Rattle.text.specs.Lines.{element_line}
use Rattle.text.proofs.Pieces.{Going}
use Rattle.text.proofs.writer.Writer.put_elements.Given as goal

abbrev pub invariant-loop-i : goal.invariant-loop-i
invariant-loop-i l = Going (element_line l.letter l.m l.indices) 35 l.n l.initial.self l.self l.i
