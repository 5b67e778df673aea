use Rattle.extrusion.proofs.Planes.{pick_is}
use Rattle.extrusion.proofs.axes.pick_z.Goals as goal

pub returns : goal.returns
returns c = pick_is _ _ _ _ _ _ _ c.or.ensures c.or-2.ensures c.unwrap_or.ensures c.turned.ensures
