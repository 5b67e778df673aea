use Rattle.bits.specs.Bits.{entries}
use Rattle.block.specs.Extents.{list_bytes}
use Rattle.lists.proofs.Pieces.{Pieces}
use Rattle.mesh.specs.Grid.{z_dimension}
use Rattle.grid.specs.Listings.{row_points}
use Rattle.grid.proofs.sided.GridBlock.put_points.Given as goal

abbrev pub invariant-loop-j : goal.invariant-loop-j
invariant-loop-j l = Pieces (row_points l.self.header l.self.settings (entries (list_bytes l.self.block.now l.self.header 3))) (z_dimension l.self.header) l.initial.work l.at l.j l.work
