use Rattle.math.proofs.RootDigits.{shift_either}
use Rattle.math.proofs.square_root.shifted.Goals as goal

pub returns : goal.returns
returns c = shift_either c.args.g c.args.m
