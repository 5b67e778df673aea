-- FORMAT 4: what the lent slices hold, and that a call left each slice where it was.
use Rattle.std.specs.Prelude.{◌≡◌}
use Rattle.mesh.specs.Mesh.{Slices}
use Rattle.lent.specs.declared.buffers.Buffers.{Buffers}

-- the six slices of the mesh
abbrev pub slices_in : Buffers → Slices
slices_in b =
    record {
      sources = b.sources.now;
      positions = b.positions.now;
      normals = b.normals.now;
      colours = b.colours.now;
      textures = b.textures.now;
      indices = b.indices.now;
    }

-- b is still lent what a was
pub record Same (a b : Buffers) : Type 0 where
  pub sources : b.sources.ghost_name ≡ a.sources.ghost_name
  pub positions : b.positions.ghost_name ≡ a.positions.ghost_name
  pub normals : b.normals.ghost_name ≡ a.normals.ghost_name
  pub colours : b.colours.ghost_name ≡ a.colours.ghost_name
  pub textures : b.textures.ghost_name ≡ a.textures.ghost_name
  pub indices : b.indices.ghost_name ≡ a.indices.ghost_name
  pub words : b.words.ghost_name ≡ a.words.ghost_name
  pub floats : b.floats.ghost_name ≡ a.floats.ghost_name
