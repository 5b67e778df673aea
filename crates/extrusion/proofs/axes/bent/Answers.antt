use Rattle.extrusion.proofs.Planes.{bent_is}
use Rattle.extrusion.proofs.axes.bent.Goals as goal

pub returns : goal.returns
returns c = bent_is _ _ _ _ c.upright-u.ensures c.cross.ensures
