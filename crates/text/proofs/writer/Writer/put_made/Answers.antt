use Rattle.text.specs.Lines.{made_text}
use Rattle.text.proofs.Pieces.{then}
use Rattle.text.proofs.writer.Writer.put_made.Goals as goal

pub returns : goal.returns
unfolding made_text
returns c = then c.put_attribute.ensures (then c.put_attribute-2.ensures c.put_attribute-3.ensures)
