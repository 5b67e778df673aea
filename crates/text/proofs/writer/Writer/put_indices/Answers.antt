use native.Mathlib.Omega.{arith}
use Rattle.text.specs.Lines.{element_lines}
use Rattle.text.proofs.Pieces.{looser}
use Rattle.text.proofs.writer.Writer.put_indices.Goals as goal

pub returns-then-lines : goal.returns-then-lines
unfolding element_lines
returns-then-lines c = rw c.if-lines.true (looser _ (omega arith) c.put_elements.ensures)

pub returns-else-lines : goal.returns-else-lines
unfolding element_lines
returns-else-lines c = rw c.if-lines.false (looser _ (omega arith) c.put_elements-else-lines.ensures)
