-- FORMAT 17.4, 17.10: how large a part is, and that it stands in the slices of a builder. For the proofs of the parts.
use Rattle.std.specs.Prelude.{◌≡◌, ℕ, ◌+◌, ◌≤◌, length}
use Rattle.lists.specs.Parts.{spliced}
use Rattle.parts.specs.declared.builder.Builder.{Builder}
use Rattle.parts.specs.declared.sizes.PartSizes.{PartSizes}
use Rattle.parts.specs.Part.{Part}
use Rattle.parts.specs.Pushed.{pushed}
use Rattle.parts.specs.Building.{streams_in, Kept, Room}

-- z is how many vertices and indices the part p has, and how many pairs it takes
pub record Sized (p : Part) (z : PartSizes) : Type 0 where
  pub vertices : z.vertices ≡ length p.verts
  pub indices : z.indices ≡ length p.indices
  pub pairs : z.pairs ≡ p.pairs

-- the slices of b, which was b₀, hold p from vertex k and place a on
pub record Written (p : Part) (k a : ℕ) (b₀ b : Builder) : Type 0 where
  pub kept : Kept b₀ b
  pub streams : streams_in b ≡ pushed b₀.ctx k p.verts (streams_in b₀)
  pub places : b.indices.now ≡ spliced b₀.indices.now a p.indices

-- there is room for it
pub record Roomy (p : Part) (k a : ℕ) (b : Builder) : Type 0 where
  pub vertices : Room (k + length p.verts) b
  pub places : a + length p.indices ≤ length b.indices.now
