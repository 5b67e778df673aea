use Rattle.mesh.specs.Extrusion.{local}
use Rattle.extrusion.proofs.points.local.Goals as goal

pub returns : goal.returns
unfolding local
returns c = c.quat_rotate.ensures
