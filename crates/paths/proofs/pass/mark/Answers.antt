use Rattle.lists.proofs.Loops.{running_none}
use Rattle.lists.proofs.Updates.{changed_more, changed_all}
use Rattle.paths.proofs.pass.mark.Goals as goal

pub loop-j-init : goal.loop-j-init
loop-j-init c = running_none

pub loop-j-preserved : goal.loop-j-preserved
loop-j-preserved c = changed_more _ _ c.loop-j.invariant c.loop-j-test.true c.verdict.ensures

pub returns : goal.returns
returns c = changed_all _ _ c.loop-j.invariant c.loop-j-test.false
