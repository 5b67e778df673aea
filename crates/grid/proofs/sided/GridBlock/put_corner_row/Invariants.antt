use Prim.Native.Nat.{ℕ, ◌-◌}
use mathlib.Core.List.{[], ◌∷◌}
use Rattle.lists.proofs.Pieces.{Pieces}
use Rattle.mesh.specs.Grid.{x_dimension}
use Rattle.grid.proofs.Corners.{of_quad}
use Rattle.grid.proofs.sided.GridBlock.put_corner_row.Given as goal

abbrev pub invariant-loop-i : goal.invariant-loop-i
invariant-loop-i l = Pieces (of_quad (x_dimension l.self.header) (λ (p : ℕ). p ∷ []) l.j) (x_dimension l.self.header - 1) l.initial.work l.k l.i l.work
