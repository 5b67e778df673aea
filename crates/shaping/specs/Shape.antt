-- FORMAT 5, 7, 8: what is asked of a shape, so that tables that hold it give its mesh.
use Rattle.std.specs.Prelude.{◌≡◌, true, cond, List, ℕ, ◌≤◌, ◌<◌, length, get_or, Float}
use Rattle.bits.specs.declared.Words2.{Words2}
use Rattle.block.specs.declared.header.Header.{Header}
use Rattle.mesh.specs.Words.{no2}
use Rattle.mesh.specs.Soup.{Corner}
use Rattle.mesh.specs.Result.{makes_normals, makes_colours, makes_textures}
use Rattle.tables.specs.Listed.{Use, Listing, no_use, no_listing, uses_at}
use Rattle.soups.specs.Keyed.{Reads}
use Rattle.vertices.specs.Places.{colour_words, texture_words}
use Rattle.build.specs.declared.shared.Shared.{Shared}

-- FORMAT 5, 7: of a block with header h and with coordIndex `coord`: each listed face has three corners or more; points stand in rings of `ring`; a corner
-- reads its normal and colour from the block, and its texture is what f writes, or nothing where none is made; what is made is what the header asks for
pub record Shape (bs coord : List ℕ) (h : Header) (sh : Shared) (ring : ℕ) (ls : List Listing) (f : ℕ → Use → Words2) (corner : ℕ → Use → Corner) : Type 0 where
  pub long : (j : ℕ) → j < length ls → 3 ≤ length (uses_at ls j)
  pub reads : (floats : List Float) → Reads (record { block = bs; coord = coord; floats = floats }) sh.attributes sh.widths ring corner
  pub texture : (j i : ℕ) → j < length ls → i < length (uses_at ls j)
      → f (get_or ls j no_listing).number (get_or (uses_at ls j) i no_use) ≡ (corner (get_or ls j no_listing).number (get_or (uses_at ls j) i no_use)).texture
  pub bare : sh.widths.texture ≡ 0 → (n : ℕ) (u : Use) → (corner n u).texture ≡ no2
  pub normals : makes_normals h ≡ true
  pub colours : sh.widths.colour ≡ cond (makes_colours h) colour_words 0
  pub textures : sh.widths.texture ≡ cond (makes_textures h) texture_words 0
