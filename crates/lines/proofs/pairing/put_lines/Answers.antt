use Rattle.lines.proofs.Pairs.{lining_here, lining_room, lining_next, lining_end}
use Rattle.lines.proofs.pairing.put_lines.Goals as goal

pub put_run-w-requires : goal.put_run-w-requires
put_run-w-requires c =
    let N = c.loop-run.invariant in
    let F = c.in-Some.ensures.steps.first in
    (lining_here N F c.requires.0, lining_room N F c.requires.1)

pub loop-run-preserved : goal.loop-run-preserved
loop-run-preserved c =
    lining_next c.loop-run.invariant c.in-Some.ensures.steps.first c.requires.1 c.put_run-w.ensures

pub returns : goal.returns
returns c = lining_end c.loop-run.invariant c.in-None.ensures.steps
