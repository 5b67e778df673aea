-- FORMAT 5, 7: where the corners of a face set or a grid get their attributes, and which are made.
use Rattle.std.specs.Prelude.{◌≡◌, true, ◌||◌, cond, List, ℕ}
use Rattle.std.specs.Bool.{then_some}
use Rattle.bits.specs.declared.Words4.{Words4}
use Rattle.block.specs.declared.header.Header.{Header}
use Rattle.block.specs.Stream.{stream_of, values_in, index_in}
use Rattle.mesh.specs.FaceSet.{Rest}
use Rattle.vertices.specs.declared.places.Widths.{Widths}
use Rattle.vertices.specs.Places.{normal_words, colour_words, texture_words}
use Rattle.corners.specs.declared.attributes.Attributes.{Attributes}

-- FORMAT 7.1: normals are list 4 and colours list 2 of the block, each with its index list after it
unfoldable pub attributes_of : Words4 → Header → Attributes
attributes_of missing h =
    record {
      normals = then_some h.normals (stream_of h h.normal_per_vertex 4);
      colours = stream_of h h.color_per_vertex 2;
      alpha = h.alpha;
      missing = missing;
    }

-- FORMAT 5: how many words of each attribute are made for a vertex
unfoldable pub face_widths : Header → Widths
face_widths h = record { normal = normal_words; colour = cond h.colors colour_words 0; texture = cond (h.need_uvs || h.texture_points) texture_words 0 }

-- FORMAT 2.4: the lists of R are those of the block's streams
pub record Streamed (bs : List ℕ) (R : Rest) : Type 0 where
  pub colours : R.colours ≡ values_in bs (stream_of R.head R.head.color_per_vertex 2)
  pub colour_index : R.colour_index ≡ index_in bs (stream_of R.head R.head.color_per_vertex 2)
  pub normals : R.normals ≡ values_in bs (stream_of R.head R.head.normal_per_vertex 4)
  pub normal_index : R.normal_index ≡ index_in bs (stream_of R.head R.head.normal_per_vertex 4)
  pub textures : R.textures ≡ values_in bs (stream_of R.head true 6)
  pub texture_index : R.texture_index ≡ index_in bs (stream_of R.head true 6)
