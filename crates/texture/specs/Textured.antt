-- FORMAT 7.3, 7.4: the table of the corners' textures, two words a corner.
use Rattle.std.specs.Prelude.{List, ℕ, ◌+◌, ◌*◌, ◌≤◌, ◌<◌, length, get_or}
use Rattle.bits.specs.declared.Words2.{Words2}
use Rattle.block.specs.Edition.{most}
use Rattle.block.specs.declared.header.Header.{Header}
use Rattle.block.specs.declared.settings.Settings.{Settings}
use Rattle.mesh.specs.declared.texture.Fit.{Fit}
use Rattle.mesh.specs.Texture.{default_at}
use Rattle.lists.specs.Loops.{tab}
use Rattle.lists.specs.Lists.{flat}
use Rattle.mesh.specs.Words.{words2}
use Rattle.tables.specs.declared.layout.Plan.{Plan}
use Rattle.tables.specs.Soups.{point_in, place_in, points_in}
use Rattle.texture.specs.Corner.{texture_in}

-- the words at a and a + 1
abbrev pub pair_at : List ℕ → ℕ → Words2
pair_at w a = record { s = get_or w a 0; t = get_or w (a + 1) 0 }

-- the words of the textures f 0, f 1, .. of n corners
abbrev pub texture_words : (ℕ → Words2) → ℕ → List ℕ
texture_words f n = flat (tab (λ c. words2 (f c)) n 0)

-- FORMAT 7.1 to 7.4, indexed_face_set (t_out): corner c of a face set, from the tables of points, of the corners' points and of their places
unfoldable pub set_texture : List ℕ → List ℕ → Header → Settings → Fit → List ℕ → Plan → ℕ → Words2
set_texture bs coord h s fit w t c = texture_in bs coord h s (place_in w t c) (default_at (points_in w t) fit (point_in w t c))

-- what is asked of the tables: they stand below the textures, which have room, and the corners name points
pub record Fitted (w : List ℕ) (t : Plan) (textures : ℕ) : Type 0 where
  pub few : t.count ≤ most
  pub points_below : t.points + 3 * t.spots ≤ textures
  pub corners_below : t.corners + t.count ≤ textures
  pub places_below : t.places + t.count ≤ textures
  pub room : textures + 2 * t.count ≤ length w
  pub within : (c : ℕ) → c < t.count → point_in w t c < t.spots
