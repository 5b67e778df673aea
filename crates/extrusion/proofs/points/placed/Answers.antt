use Rattle.extrusion.proofs.Planes.{placed_is}
use Rattle.extrusion.proofs.points.placed.Goals as goal

pub returns : goal.returns
returns c = placed_is _ _ _ _ _ _ _ _ _ c.scale.ensures c.scale-2.ensures c.add.ensures c.scale-3.ensures c.add-2.ensures c.add-3.ensures
