use mathlib.Core.Path.{ap, ap₂, ◌∙◌}
use Rattle.math.specs.Vector.{unit_of, vcross}
use Rattle.mesh.specs.Mend.{tri_normal}
use Rattle.mending.proofs.mend.tri_normal.Goals as goal

pub returns : goal.returns
unfolding tri_normal
returns c = c.normalize.ensures ∙ ap unit_of (c.cross.ensures ∙ ap₂ vcross c.sub.ensures c.sub-2.ensures)
