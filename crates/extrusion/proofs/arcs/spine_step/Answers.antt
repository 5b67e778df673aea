use Rattle.extrusion.proofs.Lengths.{step3_is}
use Rattle.extrusion.proofs.arcs.spine_step.Goals as goal

pub returns : goal.returns
returns c = step3_is _ _ _ _ c.step.ensures c.len.ensures
