use Rattle.extrusion.proofs.Planes.{closed_is, z_closed, z_first, z_last, z_none}
use Rattle.extrusion.proofs.frames.Spine.z_end.Goals as goal

pub returns-then-closes : goal.returns-then-closes
returns-then-closes c = rw (← c.len-n.ensures) (z_closed _ _ _ _ (closed_is _ _ c.closes.ensures) _ c.if-closes.true c.plane.ensures)

pub returns-then-i-eq0 : goal.returns-then-i-eq0
returns-then-i-eq0 c = rw (← c.len-n.ensures) (z_first _ _ _ _ (closed_is _ _ c.closes.ensures) _ c.if-closes.false c.if-n-gt2.true c.if-i-eq0.true c.plane-then-i-eq0.ensures)

pub returns-then-n-gt2 : goal.returns-then-n-gt2
returns-then-n-gt2 c = rw (← c.len-n.ensures) (z_last _ _ _ _ (closed_is _ _ c.closes.ensures) _ c.if-closes.false c.if-n-gt2.true c.if-i-eq0.false c.plane-then-n-gt2.ensures)

pub returns : goal.returns
returns c = rw (← c.len-n.ensures) (z_none _ _ _ _ (closed_is _ _ c.closes.ensures) c.if-closes.false c.if-n-gt2.false)
