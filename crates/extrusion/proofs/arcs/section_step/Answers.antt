use Rattle.extrusion.proofs.Values.{at2_is}
use Rattle.extrusion.proofs.Lengths.{step2_is}
use Rattle.extrusion.proofs.arcs.section_step.Goals as goal

pub returns : goal.returns
returns c = step2_is _ _ _ _ _ (at2_is _ _ _ c.at-p.ensures) (at2_is _ _ _ c.at-q.ensures) c.root.ensures.is
