use native.Mathlib.Omega.{arith}
use Rattle.text.specs.Fields.{attribute}
use Rattle.text.proofs.Pieces.{then, looser, nothing}
use Rattle.text.proofs.writer.Writer.put_attribute.Goals as goal

pub returns-then-made : goal.returns-then-made
unfolding attribute
returns-then-made c =
    rw c.if-made.true (looser _ (omega arith) (then c.put_byte.ensures (then c.put_byte-then-made.ensures c.put_fields.ensures)))

pub returns-else-made : goal.returns-else-made
unfolding attribute
returns-else-made c = rw c.if-made.false (nothing _ _)
