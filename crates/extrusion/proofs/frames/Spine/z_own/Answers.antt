use Rattle.extrusion.proofs.Planes.{z_end_lem, z_inner}
use Rattle.extrusion.proofs.frames.Spine.z_own.Goals as goal

pub returns-then-is_end : goal.returns-then-is_end
returns-then-is_end c = z_end_lem _ _ _ _ c.len.ensures c.is_end.ensures _ c.if-is_end.true (rw (← c.len.ensures) at c.z_end.ensures)

pub returns : goal.returns
returns c = z_inner _ _ _ _ c.len.ensures c.is_end.ensures _ c.if-is_end.false c.plane.ensures
