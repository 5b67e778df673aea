use Prim.Native.Nat.{ℕ, ◌-◌}
use mathlib.Core.List.{[], ◌∷◌}
use Rattle.lists.proofs.Pieces.{Pieces}
use Rattle.mesh.specs.Grid.{x_dimension, z_dimension}
use Rattle.grid.specs.Listings.{quad_row}
use Rattle.grid.proofs.sided.GridBlock.put_corners.Given as goal

abbrev pub invariant-loop-j : goal.invariant-loop-j
invariant-loop-j l = Pieces (quad_row (λ (p : ℕ). p ∷ []) (x_dimension l.self.header)) (z_dimension l.self.header - 1) l.initial.work l.k l.j l.work
