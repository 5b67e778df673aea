use native.Mathlib.Omega.{arith}
use Rattle.paths.specs.Paths.{triangle_in}
use Rattle.paths.proofs.triangles.triangle_of.Goals as goal

pub position_of-vert0-requires : goal.position_of-vert0-requires
position_of-vert0-requires c = c.requires.1 0 (omega arith)

pub position_of-vert1-requires : goal.position_of-vert1-requires
position_of-vert1-requires c = c.requires.1 1 (omega arith)

pub position_of-vert2-requires : goal.position_of-vert2-requires
position_of-vert2-requires c = c.requires.1 2 (omega arith)

pub returns : goal.returns
unfolding triangle_in
returns c = rw (c.sub-edge1.ensures, c.sub-edge2.ensures, c.position_of-vert0.ensures, c.position_of-vert1.ensures, c.position_of-vert2.ensures)
