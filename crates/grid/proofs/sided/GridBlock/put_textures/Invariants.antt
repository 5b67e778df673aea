use Prim.Native.Nat.{ℕ, ◌-◌}
use Rattle.lists.proofs.Pieces.{Pieces}
use Rattle.mesh.specs.Grid.{x_dimension, z_dimension}
use Rattle.mesh.specs.Words.{words2}
use Rattle.grid.specs.Listings.{quad_row}
use Rattle.grid.specs.Textures.{grid_texture}
use Rattle.grid.proofs.sided.GridBlock.put_textures.Given as goal

abbrev pub invariant-loop-j : goal.invariant-loop-j
invariant-loop-j l = Pieces (quad_row (λ (p : ℕ). words2 (grid_texture l.self.block.now l.self.header l.self.settings p)) (x_dimension l.self.header)) (z_dimension l.self.header - 1) l.initial.work l.textures l.j l.work
