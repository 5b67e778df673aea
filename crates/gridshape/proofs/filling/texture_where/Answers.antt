use mathlib.Core.Path.{ap}
use Rattle.shaping.proofs.Tabling.{textures_put}
use Rattle.grid.specs.Textures.{grid_texture}
use Rattle.grid.proofs.Held.{corners_listed, point_listed}
use native.Mathlib.Omega.{arith}
use Rattle.gridshape.proofs.filling.texture_where.Goals as goal

pub put_textures-requires : goal.put_textures-requires
put_textures-requires c = omega (arith, c.requires.room, corners_listed c.args.g.now.header c.requires.listed)

pub returns : goal.returns
returns c =
    let g = c.args.g.now in
    let L = c.requires.listed in
    textures_put c.requires.room (rw (← corners_listed g.header L) at c.put_textures.ensures) (λ k l. ap (grid_texture g.block.now g.header g.settings) (point_listed g.header L k l))
