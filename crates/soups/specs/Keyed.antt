-- FORMAT 7, 11: how the corners of listed faces get their attributes, and that the tables have them.
use Rattle.std.specs.Prelude.{◌≡◌, Some, ◌⊎◌, List, ℕ, ◌+◌, ◌<◌, length, get_or}
use Rattle.block.specs.declared.stream.Stream.{Stream}
use Rattle.block.specs.Stream.{get3_at, get4_at}
use Rattle.mesh.specs.Words.{no2, no3, no4}
use Rattle.mesh.specs.Soup.{Corner, gathered}
use Rattle.tables.specs.declared.layout.Plan.{Plan}
use Rattle.tables.specs.Soups.{start_in}
use Rattle.tables.specs.Listed.{Use, Listing, no_use, no_listing, uses_at}
use Rattle.vertices.specs.declared.places.Widths.{Widths}
use Rattle.vertices.specs.Places.{normal_words, colour_words, texture_words}
use Rattle.corners.specs.declared.attributes.Attributes.{Attributes}
use Rattle.corners.specs.Laid.{tables_of}
use Rattle.corners.specs.Corner.{Lent, texture_at}

-- what a corner is made of: its point; the number that it is gathered by, where points stand in rings of `ring`; where normals are supplied, the one that the
-- block has at its place or face; its colour and texture, where they are made
pub record Reads (L : Lent) (a : Attributes) (widths : Widths) (ring : ℕ) (corner : ℕ → Use → Corner) : Type 0 where
  pub point : (n : ℕ) (u : Use) → ((corner n u).point ≡ u.point) × ((corner n u).gather ≡ gathered ring u.point)
  pub given : (s : Stream) → a.normals ≡ Some s → (n : ℕ) (u : Use) → (corner n u).given ≡ get3_at L.block L.coord s u.place n no3
  pub normal : widths.normal ≡ normal_words
  pub colour : ((widths.colour ≡ colour_words) × ((n : ℕ) (u : Use) → (corner n u).colour ≡ get4_at L.block L.coord a.colours a.alpha u.place n a.missing))
      ⊎ ((widths.colour ≡ 0) × ((n : ℕ) (u : Use) → (corner n u).colour ≡ no4))

-- FORMAT 7.3: the table of texture has the words of each corner, where texture is made
pub record Textured (w : List ℕ) (t : Plan) (ls : List Listing) (corner : ℕ → Use → Corner) : Type 0 where
  pub at : (j i : ℕ) → j < t.faces → i < length (uses_at ls j)
      → texture_at w (tables_of t) (start_in w t j + i) ≡ (corner (get_or ls j no_listing).number (get_or (uses_at ls j) i no_use)).texture

abbrev pub Textures : Widths → List ℕ → Plan → List Listing → (ℕ → Use → Corner) → Type 0
Textures widths w t ls corner =
    ((widths.texture ≡ texture_words) × Textured w t ls corner) ⊎ ((widths.texture ≡ 0) × ((n : ℕ) (u : Use) → (corner n u).texture ≡ no2))
