use Rattle.polygon.specs.Points.{spot}
use Rattle.polygon.proofs.points.spot.Goals as goal

pub returns : goal.returns
unfolding spot
returns c = rw (c.of_bits.ensures, c.of_bits-2.ensures, c.of_bits-3.ensures, c.get.ensures, c.get-2.ensures, c.get-3.ensures)
