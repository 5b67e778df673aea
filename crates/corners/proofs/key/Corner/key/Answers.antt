use Rattle.corners.specs.Corner.{words_at, key_in}
use Rattle.corners.proofs.Mades.{same_made}
use Rattle.corners.proofs.key.Corner.key.Goals as goal

pub returns : goal.returns
unfolding key_in words_at
returns c =
    same_made _ _ _ _ _ _ _ _ c.requires.1 c.made_normal-n.ensures c.made_colour-k.ensures c.made_texture-x.ensures
