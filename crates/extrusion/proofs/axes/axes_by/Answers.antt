use Rattle.extrusion.proofs.Planes.{by_bent}
use Rattle.extrusion.proofs.axes.axes_by.Goals as goal

pub returns-in-Some : goal.returns-in-Some
returns-in-Some c = by_bent _ _ _ _ _ _ _ c.in-Some.is c.unwrap_or.ensures c.bent.ensures
