use Rattle.polygon.proofs.Lanes.{tested_flag, none_passes}
use Rattle.polygon.proofs.memo.is_any_left.Goals as goal

pub returns : goal.returns
returns c = none_passes _ _ (tested_flag c.args.left c.fits-left.0)
