use Rattle.text.specs.Answer.{counts_text}
use Rattle.text.proofs.Pieces.{then}
use Rattle.text.proofs.writer.Writer.put_counts.Goals as goal

pub returns : goal.returns
unfolding counts_text
returns c = then c.put_bytes.ensures (then c.put_field.ensures c.put_field-2.ensures)
