use Rattle.extrusion.proofs.Values.{at_is}
use Rattle.math.specs.Vector.{vsub}
use mathlib.Core.Path.{◌∙◌, ap₂}
use Rattle.extrusion.proofs.frames.Spine.step.Goals as goal

pub returns : goal.returns
returns c = c.sub.ensures ∙ ap₂ vsub (at_is _ _ _ c.at.ensures) (at_is _ _ _ c.at-2.ensures)
