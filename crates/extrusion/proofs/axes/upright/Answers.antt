use Rattle.extrusion.proofs.Planes.{upright_is}
use Rattle.extrusion.proofs.axes.upright.Goals as goal

pub returns : goal.returns
returns c = upright_is _ _ _ _ _ _ _ c.dot.ensures c.scale-along.ensures c.sub.ensures c.normalize.ensures c.unwrap_or.ensures
