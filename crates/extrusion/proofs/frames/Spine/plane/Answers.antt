use Rattle.extrusion.proofs.Planes.{bend_is}
use Rattle.extrusion.proofs.frames.Spine.plane.Goals as goal

pub returns : goal.returns
returns c = bend_is _ _ _ _ _ _ _ _ c.step.ensures c.step-2.ensures c.cross.ensures c.normalize.ensures
