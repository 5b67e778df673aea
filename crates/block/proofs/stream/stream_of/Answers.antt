use Rattle.block.specs.Stream.{stream_of}
use Rattle.block.proofs.stream.stream_of.Goals as goal

pub returns : goal.returns
unfolding stream_of
returns c = rw (c.index_bytes.ensures, c.list_place.ensures, c.list_place-list.ensures)
