-- FORMAT 3, 4: what is asked of whoever makes a mesh of an accepted block.
use Rattle.std.specs.Prelude.{◌≡◌, length}
use Rattle.block.specs.declared.kind.Kind.{Kind}
use Rattle.mesh.specs.Sizes.{sizes_of}
use Rattle.lent.specs.declared.buffers.Buffers.{Buffers}
use Rattle.lent.specs.Buffers.{slices_in}
use Rattle.lent.specs.Lent.{Enough}
use Rattle.sizes.specs.declared.accepted.AcceptedBlock.{AcceptedBlock}

-- FORMAT 4: the accepted block a is of kind k, and what b lends is enough for it
pub record Called (k : Kind) (a : AcceptedBlock) (b : Buffers) : Type 0 where
  pub kind : a.header.kind ≡ k
  pub enough : Enough (sizes_of a.block.now a.header) (slices_in b) (length b.words.now) (length b.floats.now)
