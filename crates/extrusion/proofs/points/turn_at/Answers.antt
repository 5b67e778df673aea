use Rattle.mesh.specs.Extrusion.{turn_at}
use Rattle.extrusion.proofs.points.turn_at.Goals as goal

pub returns : goal.returns
unfolding turn_at
returns c = c.at_or.ensures
