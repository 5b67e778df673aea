use mathlib.Core.Path.{sym, ◌∙◌}
use native.Mathlib.Omega.{arith}
use Rattle.polygon.proofs.Triangles.{outline_start, outline_go, outline_end}
use Rattle.polygon.proofs.face.put_outline_fan.Goals as goal

pub loop-t-init : goal.loop-t-init
loop-t-init c = outline_start _ _

pub loop-t-preserved : goal.loop-t-preserved
loop-t-preserved c = outline_go _ _ _ _ (omega arith) c.put_tri.ensures ∙ c.loop-t.invariant

pub returns : goal.returns
returns c = sym (outline_end _ _ _ (omega arith)) ∙ c.loop-t.invariant
