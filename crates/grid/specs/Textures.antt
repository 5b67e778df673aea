-- FORMAT 7.3, 7.4: the texture of a grid's corner.
use Rattle.std.specs.Prelude.{List, [], ℕ, ◌+◌, ◌*◌, ◌/◌, ◌%◌}
use Rattle.bits.specs.declared.Words2.{Words2}
use Rattle.block.specs.declared.header.Header.{Header}
use Rattle.block.specs.declared.settings.Settings.{Settings}
use Rattle.mesh.specs.Grid.{x_dimension, grid_default}
use Rattle.texture.specs.Corner.{texture_in}

-- FORMAT 7.1 to 7.4, elevation_grid (t_out): at point p, whose number serves as its place; the default is that of its column and row
unfoldable pub grid_texture : List ℕ → Header → Settings → ℕ → Words2
grid_texture bs h s p = texture_in bs [] h s p (grid_default h (p % x_dimension h) (p / x_dimension h))

-- FORMAT 7.4: of the point in column i of row j
abbrev pub texture_at : List ℕ → Header → Settings → ℕ → ℕ → Words2
texture_at bs h s i j = grid_texture bs h s (i + j * x_dimension h)
