use Rattle.lists.proofs.Pieces.{pieces_none, pieces_more, pieces_all}
use Rattle.lists.specs.Parts.{spliced}
use Rattle.mesh.specs.Grid.{x_dimension, z_dimension}
use Rattle.mesh.specs.Words.{words2}
use Rattle.grid.specs.Textures.{grid_texture}
use Rattle.grid.proofs.Corners.{row_width, rows_are, rows_room, row_room}
use mathlib.Core.List.{List}
use mathlib.Core.Path.{refl, ap, ◌∙◌}
use Prim.Native.Nat.{ℕ, ◌-◌, ◌*◌, ◌<◌}
use lib.ListN.{length}
use native.Mathlib.Omega.{arith}
use Rattle.grid.proofs.sided.GridBlock.put_textures.Goals as goal

pub loop-j-init : goal.loop-j-init
loop-j-init c = pieces_none

pub put-requires : goal.put-requires
put-requires c =
    let h : c.loop-j.j < z_dimension c.args.self.now.header - 1 = omega (arith, c.loop-j-test.true, c.z_dimension-zd.ensures) in
    rw (c.of-source.ensures.2, c.x_dimension-xd.ensures, c.loop-j.invariant.size) (row_room c.args.self.now.header c.args.textures (length c.args.work.now) 8 (omega (arith, c.requires)) c.loop-j.j h)

pub loop-j-preserved : goal.loop-j-preserved
loop-j-preserved c =
    let S = c.args.self.now in
    let O = c.of-source.ensures in
    let xd = x_dimension S.header in
    let f : ℕ → List ℕ = λ p. words2 (grid_texture S.block.now S.header S.settings p) in
    let h : c.loop-j.j < z_dimension S.header - 1 = omega (arith, c.loop-j-test.true, c.z_dimension-zd.ensures) in
    pieces_more ((xd - 1) * 8) (row_width xd f 2 (λ p. refl)) (rows_room S.header c.args.textures (length c.args.work.now) 8 (omega (arith, c.requires))) c.loop-j.invariant h refl refl (rw (O.0, O.2, O.3, c.x_dimension-xd.ensures) at c.put.ensures)

pub returns : goal.returns
returns c =
    let S = c.args.self.now in
    pieces_all c.loop-j.invariant (omega (arith, c.loop-j-test.false, c.z_dimension-zd.ensures))
    ∙ ap (spliced c.args.work.now c.args.textures) (rows_are (x_dimension S.header) (λ p. words2 (grid_texture S.block.now S.header S.settings p)) (z_dimension S.header - 1))
