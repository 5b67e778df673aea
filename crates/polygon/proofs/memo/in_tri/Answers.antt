use borrow.Author.Rules.{rules}
use Rattle.polygon.specs.Ears.{point_in_tri}
use Rattle.polygon.proofs.memo.in_tri.Goals as goal

pub returns-then-cross-2 : goal.returns-then-cross-2
unfolding point_in_tri
returns-then-cross-2 c = search rules

pub returns-else-cross-2 : goal.returns-else-cross-2
unfolding point_in_tri
returns-else-cross-2 c = search rules
