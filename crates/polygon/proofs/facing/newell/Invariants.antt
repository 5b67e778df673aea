use mathlib.Core.List.{◌∷◌}
use mathlib.Core.Path.{◌≡◌}
use lib.ListN.{drop}
use Rattle.polygon.specs.Facing.{newell_from, newell}
use Rattle.polygon.specs.Points.{spots}
use Rattle.polygon.proofs.facing.newell.Given as goal

abbrev pub invariant-loop-name : goal.invariant-loop-name
invariant-loop-name l = newell_from l.first l.n (l.a ∷ spots l.points (drop l.name-index l.rest)) ≡ newell (spots l.points l.fn.names)
