use mathlib.Core.Path.{ap, ◌∙◌}
use Rattle.std.specs.Prelude.{Option}
use Rattle.math.specs.declared.vector.V3.{V3}
use Rattle.math.specs.Vector.{y_axis}
use Rattle.mesh.specs.Normals.{or_else}
use Rattle.mesh.proofs.Options.{unwrap_or_is}
use Rattle.normals.proofs.source.Source.own_normal.Goals as goal

pub returns : goal.returns
returns c = c.unwrap_or.ensures ∙ unwrap_or_is _ _ ∙ ap (λ (q : (Option V3)). or_else q y_axis) c.unit_of.ensures
