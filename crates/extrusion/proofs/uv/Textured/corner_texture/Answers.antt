use mathlib.Core.Path.{ap, ◌∙◌}
use Rattle.block.specs.Texture.{uv_by, uv_words}
use Rattle.extrusion.proofs.Textures.{corner_made, corner_none}
use Rattle.extrusion.proofs.uv.Textured.corner_texture.Goals as goal

pub returns-then-h : goal.returns-then-h
unfolding uv_words
returns-then-h c =
    corner_made c.args.self.now.measured _ _ _ _ _ c.args.self.now.read c.if-h.true c.plain_texture-w.ensures (c.uv.ensures ∙ ap (λ x. uv_by x c.plain_texture-w.result) c.then_some.ensures)

pub returns : goal.returns
returns c = corner_none c.args.self.now.measured _ _ c.if-h.false
