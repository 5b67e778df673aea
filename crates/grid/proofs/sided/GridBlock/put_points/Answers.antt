use Rattle.lists.proofs.Numbers.{piece_room}
use Rattle.lists.proofs.Pieces.{pieces_none, pieces_more, pieces_all}
use Rattle.lists.specs.Parts.{spliced}
use Rattle.grid.proofs.Coords.{row_width, rows_are, rows_room}
use Rattle.mesh.specs.Grid.{x_dimension, z_dimension}
use mathlib.Core.Path.{refl, ap, ◌∙◌}
use Prim.Native.Nat.{◌*◌, ◌<◌}
use native.Mathlib.Omega.{arith}
use Rattle.grid.proofs.sided.GridBlock.put_points.Goals as goal

pub loop-j-init : goal.loop-j-init
loop-j-init c = pieces_none

pub put_point_row-requires : goal.put_point_row-requires
put_point_row-requires c =
    let I = c.loop-j.invariant in
    let h : c.loop-j.j < z_dimension c.args.self.now.header = omega (arith, c.loop-j-test.true, c.z_dimension-j-end.ensures) in
    let r = piece_room _ _ _ _ _ (rows_room c.args.self.now.header _ _ c.requires.1) h in
    (h, rw c.list_part-heights.ensures c.requires.0, rw (c.x_dimension-w.ensures, I.size) r)

pub loop-j-preserved : goal.loop-j-preserved
loop-j-preserved c =
    let h : c.loop-j.j < z_dimension c.args.self.now.header = omega (arith, c.loop-j-test.true, c.z_dimension-j-end.ensures) in
    pieces_more (x_dimension c.args.self.now.header * 3) (row_width _ _ _) (rows_room c.args.self.now.header _ _ c.requires.1) c.loop-j.invariant h refl refl (rw (c.list_part-heights.ensures, c.x_dimension-w.ensures) at c.put_point_row.ensures)

pub returns : goal.returns
returns c = pieces_all c.loop-j.invariant (omega (arith, c.loop-j-test.false, c.z_dimension-j-end.ensures)) ∙ ap (spliced c.args.work.now c.args.at) (rows_are _ _ _)
