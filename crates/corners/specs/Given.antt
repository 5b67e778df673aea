-- FORMAT 7, 11: what the keys of the corners are made of, as the code has it.
use Rattle.std.specs.Prelude.{◌≡◌}
use Rattle.block.specs.declared.stream.Attribute.{Attribute}
use Rattle.block.specs.declared.stream.Stream.{Stream}
use Rattle.corners.specs.declared.attributes.Given.{Given}
use Rattle.corners.specs.Corner.{Lent}

abbrev pub lent_in : Given → Lent
lent_in g = record { block = g.block.now; coord = g.coord.now; floats = g.floats.now }

-- FORMAT 7.1: a is what the block has by the stream s
pub record CutOf (g : Given) (s : Stream) (a : Attribute) : Type 0 where
  pub block : a.block.now ≡ g.block.now
  pub coord : a.coord.now ≡ g.coord.now
  pub stream : a.stream ≡ s
