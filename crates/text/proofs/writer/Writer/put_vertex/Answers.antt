use Rattle.text.specs.Lines.{vertex_line}
use Rattle.text.proofs.Pieces.{then}
use Rattle.text.proofs.writer.Writer.put_vertex.Goals as goal

pub returns : goal.returns
unfolding vertex_line
returns c = then c.put_place.ensures (then c.put_made.ensures c.put_byte.ensures)
