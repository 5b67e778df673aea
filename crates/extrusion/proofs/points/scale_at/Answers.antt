use Rattle.mesh.specs.Extrusion.{scale_at}
use Rattle.extrusion.proofs.points.scale_at.Goals as goal

pub returns : goal.returns
unfolding scale_at
returns c = c.at_or.ensures
