use Rattle.block.specs.Stream.{number_at}
use Rattle.block.proofs.stream.number_at.Goals as goal

pub returns-then-per_vertex : goal.returns-then-per_vertex
unfolding number_at
returns-then-per_vertex c = rw (c.if-per_vertex.true, ← c.chosen_list.ensures) c.number_in.ensures

pub returns : goal.returns
unfolding number_at
returns c = rw c.if-per_vertex.false c.number_in-2.ensures
