use Rattle.mesh.specs.Words.{point_words}
use Rattle.paths.specs.Paths.{point_in}
use Rattle.paths.proofs.triangles.point_at.Goals as goal

pub returns : goal.returns
unfolding point_in point_words
returns c = rw (c.of_bits-x.ensures, c.of_bits-y.ensures, c.of_bits-z.ensures)
