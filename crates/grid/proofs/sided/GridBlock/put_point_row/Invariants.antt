use Prim.Native.Nat.{ℕ, ◌+◌, ◌*◌}
use Rattle.bits.specs.Bits.{entries}
use Rattle.lists.proofs.Pieces.{Pieces}
use Rattle.mesh.specs.Grid.{x_dimension, grid_point}
use Rattle.mesh.specs.Words.{words3}
use Rattle.grid.proofs.sided.GridBlock.put_point_row.Given as goal

abbrev pub invariant-loop-i : goal.invariant-loop-i
invariant-loop-i l = Pieces (λ (i : ℕ). words3 (grid_point l.self.header l.self.settings (entries l.heights) (i + l.j * x_dimension l.self.header))) (x_dimension l.self.header) l.initial.work l.k l.i l.work
