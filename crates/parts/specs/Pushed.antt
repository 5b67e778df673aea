-- FORMAT 17.4: vertices written one after the other into the three slices of a part. For the proofs of the parts.
use Rattle.std.specs.Prelude.{cond, List, map, ℕ, ◌*◌, ◌≤◌, length}
use Rattle.lists.specs.Lists.{flat}
use Rattle.lists.specs.Parts.{spliced}
use Rattle.mesh.specs.Words.{words2, words3}
use Rattle.parts.specs.declared.vert.GeomCtx.{GeomCtx}
use Rattle.parts.specs.declared.vert.Vert.{Vert}
use Rattle.parts.specs.Part.{positions_of, normals_of, textures_of}

-- what the slices of positions, normals and texture hold
pub record Streams : Type 0 where
  pub positions : List ℕ
  pub normals : List ℕ
  pub textures : List ℕ

abbrev pub streams_of : List ℕ → List ℕ → List ℕ → Streams
streams_of positions normals textures = record { positions = positions; normals = normals; textures = textures }

-- the words of vertices, as they stand in a slice
abbrev pub position_words : List Vert → List ℕ
position_words vs = flat (map words3 (positions_of vs))

abbrev pub normal_words : List Vert → List ℕ
normal_words vs = flat (map words3 (normals_of vs))

abbrev pub texture_words : GeomCtx → List Vert → List ℕ
texture_words c vs = flat (map words2 (textures_of c vs))

-- the words of a vertex's texture point: none where texture is not wanted
abbrev pub texture_width : GeomCtx → ℕ
texture_width c = cond c.need_uvs 2 0

-- vs written as the vertices from number k on
unfoldable pub pushed : GeomCtx → ℕ → List Vert → Streams → Streams
pushed c k vs s =
    record {
      positions = spliced s.positions (3 * k) (position_words vs);
      normals = spliced s.normals (3 * k) (normal_words vs);
      textures = spliced s.textures (texture_width c * k) (texture_words c vs);
    }

-- the slices have room for m vertices
pub record RoomFor (c : GeomCtx) (m : ℕ) (s : Streams) : Type 0 where
  pub positions : 3 * m ≤ length s.positions
  pub normals : 3 * m ≤ length s.normals
  pub textures : texture_width c * m ≤ length s.textures
