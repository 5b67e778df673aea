use Rattle.block.specs.Settings.{settings_of}
use Rattle.block.proofs.settings.read_settings.Goals as goal

pub returns : goal.returns
unfolding settings_of
returns c = cc
