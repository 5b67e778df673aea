use mathlib.Core.Path.{refl}
use Rattle.shaping.proofs.Tabling.{textures_none, textures_put}
use Rattle.extrusion.specs.Corners.{extrusion_texture}
use Rattle.extrusionshape.proofs.Tabling.{texture_none}
use Rattle.extrusionshape.proofs.filling.texture_where.Goals as goal

pub returns-then-x : goal.returns-then-x
unfolding extrusion_texture
returns-then-x c = textures_put c.requires.4.room c.put_textures.ensures (λ k l. refl)

pub returns-else-x : goal.returns-else-x
returns-else-x c = textures_none (texture_none _ c.requires.1 c.if-x.false)
