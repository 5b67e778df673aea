-- FORMAT 17.4, Builder: the vertices that it writes, and that it keeps the slices of its caller, which their ghost names say. For the proofs of the parts.
use Rattle.std.specs.Prelude.{◌≡◌, List, ℕ}
use Rattle.parts.specs.declared.builder.Builder.{Builder}
use Rattle.parts.specs.declared.vert.Vert.{Vert}
use Rattle.parts.specs.Pushed.{Streams, streams_of, pushed, RoomFor}

-- what its slices hold
abbrev pub streams_in : Builder → Streams
streams_in b = streams_of b.positions.now b.normals.now b.textures.now

-- its context and its slices are the same, whatever these hold
pub record Kept (b₀ b : Builder) : Type 0 where
  pub ctx : b.ctx ≡ b₀.ctx
  pub positions : b.positions.ghost_name ≡ b₀.positions.ghost_name
  pub normals : b.normals.ghost_name ≡ b₀.normals.ghost_name
  pub textures : b.textures.ghost_name ≡ b₀.textures.ghost_name
  pub indices : b.indices.ghost_name ≡ b₀.indices.ghost_name

-- there is room for m vertices
abbrev pub Room : ℕ → Builder → Type 0
Room m b = RoomFor b.ctx m (streams_in b)

-- vs are written as the vertices from number k on, and nothing else
pub record Pushes (k : ℕ) (vs : List Vert) (b₀ b : Builder) : Type 0 where
  pub kept : Kept b₀ b
  pub streams : streams_in b ≡ pushed b₀.ctx k vs (streams_in b₀)
  pub indices : b.indices.now ≡ b₀.indices.now
