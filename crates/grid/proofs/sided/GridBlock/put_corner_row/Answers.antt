use Rattle.lists.proofs.Pieces.{pieces_none, pieces_more, pieces_all}
use Rattle.lists.specs.Lists.{flat}
use Rattle.lists.specs.Parts.{spliced}
use Rattle.mesh.specs.Grid.{x_dimension}
use Rattle.mesh.specs.Quads.{quad}
use Rattle.grid.proofs.Corners.{quad_is, quad_width, row_is}
use mathlib.Core.List.{[], ◌∷◌}
use mathlib.Core.Path.{refl, ap, ◌∙◌}
use Prim.Native.Nat.{ℕ, ◌-◌, ◌<◌}
use native.Mathlib.Omega.{arith}
use Rattle.grid.proofs.sided.GridBlock.put_corner_row.Goals as goal

pub loop-i-init : goal.loop-i-init
loop-i-init c = pieces_none

pub loop-i-preserved : goal.loop-i-preserved
unfolding quad flat
loop-i-preserved c =
    let xd = x_dimension c.args.self.now.header in
    let h : c.loop-i.i < xd - 1 = omega (arith, c.loop-i-test.true, c.x_dimension-i-end.ensures) in
    pieces_more 4 (quad_width xd (λ (p : ℕ). p ∷ []) 1 (λ p. refl) c.args.j) c.requires.1 c.loop-i.invariant h refl (quad_is xd (λ (p : ℕ). p ∷ []) c.loop-i.i c.args.j h) c.put_quad.ensures

pub returns : goal.returns
returns c = pieces_all c.loop-i.invariant (omega (arith, c.loop-i-test.false, c.x_dimension-i-end.ensures)) ∙ ap (spliced c.args.work.now c.args.k) (row_is _ _ _)
