use mathlib.Core.Path.{◌∙◌}
use Rattle.texture.proofs.Filled.{listed_any}
use Rattle.texture.proofs.corner.Source.texture_at.Goals as goal

pub returns-then-self : goal.returns-then-self
returns-then-self c = c.corner_texture.ensures ∙ listed_any _ _ _ _ _ _ _ c.if-self.true

pub returns : goal.returns
returns c = rw (c.corner_texture-2.ensures, c.default_at.ensures, c.points_of.ensures.are)
