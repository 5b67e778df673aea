use mathlib.Core.Path.{refl}
use Rattle.block.specs.Edition.{edition1, edition_of}
use Rattle.block.proofs.edition.edition_of.Goals as goal

pub returns : goal.returns
unfolding edition_of edition1
returns c = refl
