use Rattle.text.specs.Lines.{place_text}
use Rattle.text.proofs.Pieces.{then}
use Rattle.text.proofs.writer.Writer.put_place.Goals as goal

pub returns : goal.returns
unfolding place_text
returns c = then c.put_byte.ensures (then (rw c.get.ensures at c.put_field.ensures) c.put_fields.ensures)
