-- FORMAT 7, 11: the key of a corner, from the block, the generated normals and the tables.
use Rattle.std.specs.Prelude.{List, ◌++◌, ℕ, ◌+◌, ◌*◌, get_or, Float}
use Rattle.std.specs.Option.{option_map_or}
use Rattle.std.specs.Float.{binary32}
use Rattle.std.specs.Float.Ieee.{to_bits}
use Rattle.bits.specs.declared.Words2.{Words2}
use Rattle.bits.specs.declared.Words3.{Words3}
use Rattle.bits.specs.declared.Words4.{Words4}
use Rattle.math.specs.Vector.{zero_f}
use Rattle.block.specs.Stream.{get3_at, get4_at}
use Rattle.mesh.specs.Words.{words2, words3, words4, no3}
use Rattle.mesh.specs.Vertices.{Key}
use Rattle.vertices.specs.declared.places.Widths.{Widths}
use Rattle.vertices.specs.Search.{corner_key}
use Rattle.corners.specs.declared.attributes.Attributes.{Attributes}
use Rattle.corners.specs.declared.laid.CornerTables.{CornerTables}

-- what is lent and only read: the block's bytes, the bytes of coordIndex, and the generated normals, three floats a corner
pub record Lent : Type 0 where
  pub block : List ℕ
  pub coord : List ℕ
  pub floats : List Float

-- FORMAT 7.1: a corner's point, its place, and its face's number
unfoldable pub point_at : List ℕ → CornerTables → ℕ → ℕ
point_at w t c = get_or w (t.corners + c) 0

unfoldable pub place_at : List ℕ → CornerTables → ℕ → ℕ
place_at w t c = get_or w (t.places + c) 0

unfoldable pub number_at : List ℕ → CornerTables → ℕ → ℕ
number_at w t c = get_or w (t.numbers + c) 0

-- FORMAT 7.3: its words of texture
unfoldable pub texture_at : List ℕ → CornerTables → ℕ → Words2
texture_at w t c = record { s = get_or w (t.textures + 2 * c) 0; t = get_or w (t.textures + 2 * c + 1) 0 }

-- FORMAT 10.2: the words of its generated normal
unfoldable pub generated_at : List Float → ℕ → Words3
generated_at floats c =
    record {
      x = to_bits binary32 (get_or floats (3 * c) zero_f);
      y = to_bits binary32 (get_or floats (3 * c + 1) zero_f);
      z = to_bits binary32 (get_or floats (3 * c + 2) zero_f);
    }

-- FORMAT 10.2, PolyMesh::build (corner_normals): the supplied words at the corner's place or face, or the generated ones
unfoldable pub normal_at : Lent → Attributes → List ℕ → CornerTables → ℕ → Words3
normal_at L a w t c =
    option_map_or (λ s. get3_at L.block L.coord s (place_at w t c) (number_at w t c) no3) a.normals (generated_at L.floats c)

-- FORMAT 7.2: its colour
unfoldable pub colour_at : Lent → Attributes → List ℕ → CornerTables → ℕ → Words4
colour_at L a w t c = get4_at L.block L.coord a.colours a.alpha (place_at w t c) (number_at w t c) a.missing

-- FORMAT 11: the words of a corner's key
unfoldable pub words_at : Lent → Attributes → List ℕ → CornerTables → ℕ → List ℕ
words_at L a w t c = words3 (normal_at L a w t c) ++ words4 (colour_at L a w t c) ++ words2 (texture_at w t c)

-- FORMAT 11, VertexKey: its key; an attribute that is not made has zeros in it
unfoldable pub key_in : Lent → Attributes → Widths → List ℕ → CornerTables → ℕ → Key
key_in L a widths w t c = corner_key widths (point_at w t c) (words_at L a w t c)
