use Rattle.std.proofs.Common.{rules}
use Rattle.text.proofs.Pieces.{going_start, going_step, going_end, left_in}
use Rattle.sinetable.specs.Lines.{table_text}
use Rattle.sinetable.proofs.lines.put_table.Goals as goal

pub loop-k-init : goal.loop-k-init
loop-k-init c = going_start _ _ _ _

pub loop-k-preserved : goal.loop-k-preserved
loop-k-preserved c = going_step c.loop-k.invariant c.loop-k-test.true c.put_line.ensures

pub returns : goal.returns
unfolding table_text
returns c = left_in (going_end c.loop-k.invariant c.loop-k-test.false) (search rules)
