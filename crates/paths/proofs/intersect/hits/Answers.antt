use mathlib.Core.Path.{◌∙◌, ap}
use Rattle.paths.specs.Intersect.{is_hit, hits}
use Rattle.paths.proofs.intersect.hits.Goals as goal

pub returns : goal.returns
unfolding hits
returns c = c.is_hit.ensures ∙ ap is_hit c.cross_triangle.ensures
