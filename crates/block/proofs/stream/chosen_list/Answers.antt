use Rattle.block.proofs.StreamLaws.{chosen_coord, chosen_own}
use Rattle.block.proofs.stream.chosen_list.Goals as goal

pub returns-then-own-eq0 : goal.returns-then-own-eq0
returns-then-own-eq0 c = chosen_coord c.args.own.now _ c.if-own-eq0.true

pub returns-else-own-eq0 : goal.returns-else-own-eq0
returns-else-own-eq0 c = chosen_own _ _ c.if-own-eq0.false
