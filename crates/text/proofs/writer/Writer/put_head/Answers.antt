use Rattle.text.specs.Answer.{head_line}
use Rattle.text.proofs.Pieces.{then}
use Rattle.text.proofs.writer.Writer.put_head.Goals as goal

pub returns : goal.returns
unfolding head_line
returns c = then c.put_counts.ensures c.put_flags.ensures
