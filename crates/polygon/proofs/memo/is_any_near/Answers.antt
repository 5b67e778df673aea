use Rattle.polygon.proofs.Lanes.{tested_flag, tested_side, tested_both, none_passes}
use Rattle.polygon.proofs.memo.is_any_near.Goals as goal

pub returns : goal.returns
returns c = none_passes _ _ (tested_both _ _ _ _ (tested_flag c.args.left c.fits-left.0) (tested_both _ _ _ _ (tested_side c.args.bc c.fits-bc.0) (tested_side c.args.ca c.fits-ca.0)))
