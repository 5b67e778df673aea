use Prim.Native.Nat.{◌+◌}
use lib.ListN.{get_or}
use Rattle.text.specs.Fields.{field_of}
use Rattle.text.proofs.Pieces.{Going}
use Rattle.text.proofs.writer.Writer.put_fields.Given as goal

abbrev pub invariant-loop-i : goal.invariant-loop-i
invariant-loop-i l = Going (λ j. field_of l.word (get_or l.list (l.a + j) 0)) 11 l.m l.initial.self l.self l.i
