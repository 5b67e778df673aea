use Rattle.text.proofs.Pieces.{going_start, going_step, going_end}
use Rattle.text.proofs.writer.Writer.put_vertices.Goals as goal

pub loop-i-init : goal.loop-i-init
loop-i-init c = going_start _ _ _ _

pub loop-i-preserved : goal.loop-i-preserved
loop-i-preserved c = going_step c.loop-i.invariant c.loop-i-test.true c.put_vertex.ensures

pub returns : goal.returns
returns c = going_end c.loop-i.invariant c.loop-i-test.false
