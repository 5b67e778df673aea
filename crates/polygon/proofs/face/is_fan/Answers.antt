use borrow.Author.Rules.{rules}
use Rattle.polygon.specs.Fans.{is_fan}
use Rattle.polygon.proofs.face.is_fan.Goals as goal

pub returns-then-convex : goal.returns-then-convex
unfolding is_fan
returns-then-convex c = search rules

pub returns-else-convex : goal.returns-else-convex
unfolding is_fan
returns-else-convex c = search rules
