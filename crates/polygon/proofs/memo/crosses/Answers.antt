use Rattle.polygon.proofs.Lanes.{cross_at}
use Rattle.polygon.proofs.memo.crosses.Goals as goal

pub returns : goal.returns
returns c = λ k l. cross_at c.args.o.x c.args.o.y c.args.a.x c.args.a.y 16 c.args.x c.args.y c.fits-x.0 c.fits-y.0 k l
