use mathlib.Core.Path.{ap, ◌∙◌}
use lib.Ieee.{Float}
use Rattle.math.specs.Vector.{unit_by, unit_of}
use Rattle.math.proofs.vector.normalize.Goals as goal

pub returns : goal.returns
unfolding unit_of
returns c = c.unit_by.ensures ∙ ap (λ (l : Float). unit_by l c.args.a) c.len.ensures
