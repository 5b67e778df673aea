use Rattle.parts.proofs.Building.{pushes_none}
use Rattle.parts.proofs.Turning.{run_room, run_more}
use Rattle.parts.proofs.builder.Builder.put_run.Goals as goal

pub loop-i-init : goal.loop-i-init
loop-i-init c = pushes_none _ _

pub put_vert-requires : goal.put_vert-requires
put_vert-requires c = run_room _ _ c.requires c.loop-i-test.true c.loop-i.invariant

pub loop-i-preserved : goal.loop-i-preserved
loop-i-preserved c = run_more _ _ c.requires c.loop-i-test.true c.loop-i.invariant _ c.put_vert.ensures
