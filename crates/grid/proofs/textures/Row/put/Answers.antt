use Rattle.lists.proofs.Pieces.{pieces_none, pieces_more, pieces_all}
use Rattle.lists.specs.Lists.{flat}
use Rattle.lists.specs.Parts.{spliced}
use Rattle.mesh.specs.Grid.{x_dimension}
use Rattle.mesh.specs.Quads.{quad}
use Rattle.mesh.specs.Words.{words2}
use Rattle.grid.specs.Textures.{grid_texture}
use Rattle.grid.proofs.Corners.{quad_is, quad_width, row_is}
use mathlib.Core.List.{List, [], ◌++◌}
use mathlib.Core.Path.{refl, ap, ◌∙◌}
use Prim.Native.Nat.{ℕ, ◌-◌, ◌<◌}
use native.Mathlib.Omega.{arith}
use Rattle.grid.proofs.textures.Row.put.Goals as goal

pub loop-i-init : goal.loop-i-init
loop-i-init c = (c.edge-left.ensures.near, c.edge-left.ensures.far, pieces_none)

pub loop-i-preserved : goal.loop-i-preserved
unfolding quad flat
loop-i-preserved c =
    let S = c.args.self.now in
    let s = S.source in
    let xd = x_dimension s.header in
    let f : ℕ → List ℕ = λ p. words2 (grid_texture s.block.now s.header s.settings p) in
    let I = c.loop-i.invariant in
    let R = c.edge-right.ensures in
    let h : c.loop-i.i < xd - 1 = omega (arith, c.loop-i-test.true, S.width) in (
      R.near,
      R.far,
      pieces_more 8 (quad_width xd f 2 (λ p. refl) S.j) c.requires I.2 h refl
          ((λ t. words2 (I.0 t) ++ (words2 (I.1 t) ++ (words2 (R.far t) ++ (words2 (R.near t) ++ [])))) ∙ quad_is xd f c.loop-i.i S.j h) c.put_all.ensures,
    )

pub returns : goal.returns
returns c = pieces_all c.loop-i.invariant.2 (omega (arith, c.loop-i-test.false, c.args.self.now.width)) ∙ ap (spliced c.args.work.now c.args.k) (row_is _ _ _)
