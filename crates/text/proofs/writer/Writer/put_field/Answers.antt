use native.Mathlib.Omega.{arith}
use Rattle.text.specs.Digits.{hexadecimal, decimal}
use Rattle.text.specs.Fields.{word_field, number_field}
use Rattle.text.proofs.Pieces.{then, looser}
use Rattle.text.proofs.writer.Writer.put_field.Goals as goal

pub returns-then-word : goal.returns-then-word
unfolding word_field hexadecimal
returns-then-word c = rw c.if-word.true (looser 11 (omega arith) (then c.put_byte.ensures c.put_digits.ensures))

pub returns-else-word : goal.returns-else-word
unfolding number_field decimal
returns-else-word c = rw c.if-word.false (then c.put_byte.ensures c.put_digits-else-word.ensures)
