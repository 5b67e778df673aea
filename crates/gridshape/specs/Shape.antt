-- FORMAT 7, 8.3: the texture of a grid.
use Rattle.std.specs.Prelude.{List, ℕ}
use Rattle.bits.specs.declared.Words2.{Words2}
use Rattle.block.specs.declared.header.Header.{Header}
use Rattle.block.specs.declared.settings.Settings.{Settings}
use Rattle.tables.specs.Listed.{Use}
use Rattle.grid.specs.Textures.{grid_texture}

-- FORMAT 7.3, 7.4: of a corner, by its point alone
abbrev pub texture_of : List ℕ → Header → Settings → ℕ → Use → Words2
texture_of bs h s number u = grid_texture bs h s u.point
