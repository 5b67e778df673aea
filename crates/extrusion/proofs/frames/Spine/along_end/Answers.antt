use Rattle.extrusion.proofs.Planes.{closed_is, end_closed, end_first, end_last}
use Rattle.extrusion.proofs.frames.Spine.along_end.Goals as goal

pub returns-then-closes : goal.returns-then-closes
returns-then-closes c = rw (← c.len-n.ensures) (end_closed _ _ _ _ (closed_is _ _ c.closes.ensures) _ c.if-closes.true c.step.ensures)

pub returns-then-i-eq0 : goal.returns-then-i-eq0
returns-then-i-eq0 c = rw (← c.len-n.ensures) (end_first _ _ _ _ (closed_is _ _ c.closes.ensures) _ c.if-closes.false c.if-i-eq0.true c.step-then-i-eq0.ensures)

pub returns : goal.returns
returns c = rw (← c.len-n.ensures) (end_last _ _ _ _ (closed_is _ _ c.closes.ensures) _ c.if-closes.false c.if-i-eq0.false c.step-2.ensures)
