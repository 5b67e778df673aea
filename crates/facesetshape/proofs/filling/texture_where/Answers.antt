use Rattle.shaping.proofs.Tabling.{textures_put}
use Rattle.facesetshape.proofs.Tabling.{texture_put}
use Rattle.facesetshape.proofs.filling.texture_where.Goals as goal

pub returns : goal.returns
returns c =
    let S = c.of-source.ensures in
    let B = c.args.b.now in
    textures_put c.requires.fitted.room (rw (S.0, S.1, S.2, S.3) at c.put_textures.ensures) (λ k l. texture_put c.requires c.fit_in-fit.ensures B.settings B.lists.coord_is k)
