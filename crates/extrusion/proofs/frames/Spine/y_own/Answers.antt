use Rattle.extrusion.proofs.Planes.{y_end, y_inner}
use Rattle.extrusion.proofs.frames.Spine.y_own.Goals as goal

pub returns-then-is_end : goal.returns-then-is_end
returns-then-is_end c = y_end _ _ _ _ c.len.ensures c.is_end.ensures _ _ c.if-is_end.true (rw (← c.len.ensures) at c.along_end.ensures) c.normalize.ensures

pub returns : goal.returns
returns c = y_inner _ _ _ _ c.len.ensures c.is_end.ensures _ _ c.if-is_end.false c.step.ensures c.normalize-2.ensures
