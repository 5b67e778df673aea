use mathlib.Core.List.{[]}
use Rattle.sizes.proofs.ByKind.{grid_are}
use Rattle.sizes.proofs.kinds.grid_sizes.Goals as goal

pub returns : goal.returns
returns c = grid_are [] _ _ _ c.points.ensures c.quads-quads.ensures.0
