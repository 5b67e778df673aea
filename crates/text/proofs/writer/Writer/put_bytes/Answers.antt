use Rattle.std.proofs.lemmas.List.{take_more}
use Rattle.text.proofs.Pieces.{then, nothing}
use Rattle.text.proofs.writer.Writer.put_bytes.Goals as goal

pub loop-v-init : goal.loop-v-init
loop-v-init c = nothing _ _

pub loop-v-preserved : goal.loop-v-preserved
loop-v-preserved c = rw (take_more c.args.text.now c.loop-v.v-index 0 c.loop-v-test.true) (then c.loop-v.invariant c.put_byte.ensures)
