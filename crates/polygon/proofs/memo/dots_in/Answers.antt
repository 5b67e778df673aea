use Rattle.polygon.proofs.Lanes.{dots_at}
use Rattle.polygon.proofs.memo.dots_in.Goals as goal

pub returns : goal.returns
returns c = λ k l. dots_at c.args.p.now k c.requires l
