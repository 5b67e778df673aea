use Rattle.block.specs.Texture.{uv_words}
use Rattle.texture.specs.Corner.{texture_in}
use Rattle.texture.proofs.corner.Source.corner_texture.Goals as goal

pub returns-then-self : goal.returns-then-self
unfolding texture_in uv_words
returns-then-self c =
    let S = c.args.self.now in
    rw (c.uv.ensures, c.get-listed.ensures, S.transform_is, S.stream_is, S.coord_is, S.block_is, c.if-self.true)

pub returns-then-self-2 : goal.returns-then-self-2
unfolding texture_in uv_words
returns-then-self-2 c = rw (c.uv-then-self-2.ensures, c.args.self.now.transform_is, c.if-self-2.true, c.if-self.false)

pub returns : goal.returns
unfolding texture_in
returns c = rw (c.if-self-2.false, c.if-self.false)
