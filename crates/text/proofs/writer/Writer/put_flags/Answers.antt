use Rattle.text.specs.Answer.{flags_text}
use Rattle.text.proofs.Pieces.{then}
use Rattle.text.proofs.writer.Writer.put_flags.Goals as goal

pub returns : goal.returns
unfolding flags_text
returns c = then (rw c.from.ensures at c.put_field.ensures) (then (rw c.from-2.ensures at c.put_field-2.ensures) (then (rw c.from-3.ensures at c.put_field-3.ensures) c.put_byte.ensures))
