-- FORMAT 5: the mesh of a block of any kind, which of its attributes are made, and the words of the lent slices.
use Rattle.std.specs.Prelude.{ℕ, Bool, false, not, ◌||◌, cond, List, [], length}
use Rattle.bits.specs.declared.Words4.{Words4}
use Rattle.block.specs.declared.header.Header.{Header}
use Rattle.block.specs.Header.{header_of}
use Rattle.block.specs.Kind.{by_kind, is_lines}
use Rattle.mesh.specs.Mesh.{Mesh, Slices, slices_of}
use Rattle.mesh.specs.FaceSet.{face_set_mesh}
use Rattle.mesh.specs.Lines.{line_set_mesh}
use Rattle.mesh.specs.Grid.{grid_mesh}
use Rattle.mesh.specs.Extrusion.{extrusion_mesh}
use Rattle.mesh.specs.Primitives.{primitive_mesh}

-- FORMAT 8, convert: by kind
unfoldable pub block_mesh : Words4 → List ℕ → Mesh
block_mesh missing bs = by_kind (header_of bs).kind (face_set_mesh missing bs) (line_set_mesh missing bs) (grid_mesh missing bs) (extrusion_mesh bs) (λ g. primitive_mesh missing g bs)

-- FORMAT 5: for all but line sets
abbrev pub makes_normals : Header → Bool
makes_normals h = not (is_lines h.kind)

-- FORMAT 5: where present, but never for an extrusion
abbrev pub makes_colours : Header → Bool
makes_colours h = by_kind h.kind h.colors h.colors h.colors false (λ g. h.colors)

-- FORMAT 5: where wanted or, in all but extrusions, where texture points are present; never for a line set
abbrev pub makes_textures : Header → Bool
makes_textures h = by_kind h.kind (h.need_uvs || h.texture_points) false (h.need_uvs || h.texture_points) h.need_uvs (λ g. h.need_uvs || h.texture_points)

-- FORMAT 5: what is made is written from the start of its slice, so an attribute that is not made leaves its slice as it was
unfoldable pub made_of : Header → Slices → Slices
made_of h S =
    record {
      sources = S.sources;
      positions = S.positions;
      normals = cond (makes_normals h) S.normals [];
      colours = cond (makes_colours h) S.colours [];
      textures = cond (makes_textures h) S.textures [];
      indices = S.indices;
    }

-- FORMAT 5: what is written for a block
unfoldable pub made : Words4 → List ℕ → Slices
made missing bs = made_of (header_of bs) (slices_of (block_mesh missing bs))

-- FORMAT 5: the counts and bits of the result
pub record Result : Type 0 where
  pub vertices : ℕ
  pub indices : ℕ
  pub solid : Bool
  pub unlit : Bool
  pub has_colours : Bool

-- FORMAT 5: a line set is always solid and unlit; the others are never unlit
unfoldable pub result_of : Header → Mesh → Result
result_of h M =
    record {
      vertices = length M.sources;
      indices = length M.indices;
      solid = is_lines h.kind || h.solid;
      unlit = is_lines h.kind;
      has_colours = makes_colours h;
    }
