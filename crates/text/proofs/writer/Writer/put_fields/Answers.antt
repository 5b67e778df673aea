use Rattle.text.specs.Fields.{fields}
use Rattle.text.proofs.Pieces.{going_start, going_step, going_end}
use Rattle.text.proofs.writer.Writer.put_fields.Goals as goal

pub loop-i-init : goal.loop-i-init
loop-i-init c = going_start _ _ _ _

pub loop-i-preserved : goal.loop-i-preserved
loop-i-preserved c =
    going_step c.loop-i.invariant c.loop-i-test.true (rw c.get.ensures at c.put_field.ensures)

pub returns : goal.returns
unfolding fields
returns c = going_end c.loop-i.invariant c.loop-i-test.false
