use Rattle.extrusion.proofs.Planes.{straight_is}
use Rattle.extrusion.proofs.axes.straight.Goals as goal

pub returns : goal.returns
returns c =
    straight_is _ _ _ _ _ _ c.unwrap_or.ensures c.quat_between-q.ensures c.quat_rotate.ensures c.quat_rotate-2.ensures c.quat_rotate-3.ensures
