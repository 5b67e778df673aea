use Rattle.block.proofs.RunLaws.{run_part_lem, run_past}
use Rattle.block.proofs.runs.run_at.Goals as goal

pub returns-then-start-list : goal.returns-then-start-list
returns-then-start-list c = run_part_lem _ _ _ c.run_end-e.ensures.0 c.run_end-e.ensures.1

pub returns : goal.returns
returns c = run_past _ _ c.if-start-list.false
