use Prim.Native.Nat.{ℕ, ◌+◌, ◌-◌}
use mathlib.Core.Path.{◌≡◌}
use Rattle.lists.proofs.Pieces.{Pieces}
use Rattle.mesh.specs.Grid.{x_dimension}
use Rattle.mesh.specs.Words.{words2}
use Rattle.grid.specs.Textures.{grid_texture, texture_at}
use Rattle.grid.proofs.Corners.{of_quad}
use Rattle.grid.proofs.textures.Row.put.Given as goal

abbrev pub invariant-loop-i : goal.invariant-loop-i
invariant-loop-i l =
    (l.left.near ≡ texture_at l.self.source.block.now l.self.source.header l.self.source.settings l.i l.self.j)
    × (l.left.far ≡ texture_at l.self.source.block.now l.self.source.header l.self.source.settings l.i (l.self.j + 1))
    × Pieces (of_quad (x_dimension l.self.source.header) (λ (p : ℕ). words2 (grid_texture l.self.source.block.now l.self.source.header l.self.source.settings p)) l.self.j) (x_dimension l.self.source.header - 1) l.initial.work l.k l.i l.work
