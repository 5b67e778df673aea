use mathlib.Core.Path.{refl}
use Rattle.block.specs.Texture.{applied}
use Rattle.block.proofs.texture.TexTransform.apply.Goals as goal

pub returns : goal.returns
unfolding applied
returns c = refl
