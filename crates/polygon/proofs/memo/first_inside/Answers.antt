use Rattle.polygon.proofs.Lanes.{tested_inside, first_none, first_some}
use Rattle.polygon.proofs.memo.first_inside.Goals as goal

pub returns-then-set-eq0 : goal.returns-then-set-eq0
returns-then-set-eq0 c = first_none _ _ (tested_inside c.args.left c.args.ab c.args.bc c.args.ca c.fits-left.0 c.fits-ab.0 c.fits-bc.0 c.fits-ca.0) c.if-set-eq0.true

pub returns : goal.returns
returns c = first_some _ _ (tested_inside c.args.left c.args.ab c.args.bc c.args.ca c.fits-left.0 c.fits-ab.0 c.fits-bc.0 c.fits-ca.0) c.if-set-eq0.false
