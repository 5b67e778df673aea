-- FORMAT 17.4, Builder: a part as it is built, and the mesh of it.
use Rattle.std.specs.Prelude.{ℕ, ◌+◌, cond, List, [], ◌++◌, map, length, option_map}
use Rattle.std.specs.Float.{binary32}
use Rattle.std.specs.Float.Ieee.{to_bits}
use Rattle.bits.specs.declared.Words2.{Words2}
use Rattle.bits.specs.declared.Words3.{Words3}
use Rattle.block.specs.Settings.{finite_transform}
use Rattle.block.specs.Texture.{uv_by}
use Rattle.mesh.specs.Words.{bits}
use Rattle.mesh.specs.Mesh.{Mesh}
use Rattle.parts.specs.declared.vert.GeomCtx.{GeomCtx}
use Rattle.parts.specs.declared.vert.Vert.{Vert}

-- FORMAT 17.4: its vertices and indices in the order in which the source makes them, and how many pairs were taken
pub record Part : Type 0 where
  pub verts : List Vert
  pub indices : List ℕ
  pub pairs : ℕ

-- FORMAT 17.4: a part of nothing
abbrev pub no_part : Part
no_part = record { verts = []; indices = []; pairs = 0 }

-- FORMAT 17.4: p, and then a part that goes by the vertices that there are and the pairs that were taken
unfoldable pub followed : Part → (ℕ → ℕ → Part) → Part
followed p f = let q = f (length p.verts) p.pairs in record { verts = p.verts ++ q.verts; indices = p.indices ++ q.indices; pairs = p.pairs + q.pairs }

-- FORMAT 2.3, TexTransform::from_node: the pairs of the transform that are not finite replaced
unfoldable pub finite_ctx : GeomCtx → GeomCtx
finite_ctx c = record { need_uvs = c.need_uvs; transform = option_map finite_transform c.transform }

-- FORMAT 17.4, 7.3, Builder::vert (uv)
unfoldable pub uv_of : GeomCtx → Vert → Words2
uv_of c v = uv_by c.transform (record { s = to_bits binary32 v.st.s; t = to_bits binary32 v.st.t })

-- FORMAT 17.4: the words of the positions, the normals and, where texture is wanted, the texture points
unfoldable pub positions_of : List Vert → List Words3
positions_of vs = map (λ (v : Vert). bits v.position) vs

unfoldable pub normals_of : List Vert → List Words3
normals_of vs = map (λ (v : Vert). bits v.normal) vs

unfoldable pub textures_of : GeomCtx → List Vert → List Words2
textures_of c vs = cond c.need_uvs (map (uv_of c) vs) []

-- FORMAT 17.4, Builder::finish: no sources and no colours
unfoldable pub part_mesh : GeomCtx → Part → Mesh
part_mesh c p =
    record {
      sources = [];
      positions = positions_of p.verts;
      normals = normals_of p.verts;
      colours = [];
      textures = textures_of c p.verts;
      indices = p.indices;
    }
