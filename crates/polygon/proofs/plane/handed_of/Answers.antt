use Rattle.polygon.specs.Plane.{handed}
use Rattle.polygon.proofs.plane.handed_of.Goals as goal

pub returns-then-ccw : goal.returns-then-ccw
unfolding handed
returns-then-ccw c = rw c.if-ccw.true

pub returns : goal.returns
unfolding handed
returns c = rw (c.scale.ensures, c.if-ccw.false)
