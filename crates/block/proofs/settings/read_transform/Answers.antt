use Rattle.block.specs.Settings.{transform_of}
use Rattle.block.proofs.settings.read_transform.Goals as goal

pub returns : goal.returns
unfolding transform_of
returns c = cc
