use Rattle.lists.proofs.Pieces.{pieces_none, pieces_more, pieces_all, flat_ones}
use Rattle.lists.specs.Parts.{spliced}
use Rattle.mesh.specs.Grid.{x_dimension, z_dimension}
use Rattle.mesh.specs.Sizes.{quad_count}
use Rattle.grid.specs.Listings.{corner_point}
use Rattle.grid.proofs.Corners.{row_width, rows_are, rows_room, row_room}
use mathlib.Core.List.{[], ◌∷◌}
use mathlib.Core.Path.{refl, ap, ◌∙◌}
use Prim.Native.Nat.{ℕ, ◌-◌, ◌*◌, ◌<◌}
use lib.ListN.{length}
use native.Mathlib.Omega.{arith}
use Rattle.grid.proofs.sided.GridBlock.put_corners.Goals as goal

pub loop-j-init : goal.loop-j-init
loop-j-init c = pieces_none

pub put_corner_row-requires : goal.put_corner_row-requires
put_corner_row-requires c =
    let h : c.loop-j.j < z_dimension c.args.self.now.header - 1 = omega (arith, c.loop-j-test.true, c.z_dimension-j-end.ensures) in
    (omega arith, rw (c.x_dimension.ensures, c.loop-j.invariant.size) (row_room c.args.self.now.header c.args.k (length c.args.work.now) 4 c.requires c.loop-j.j h))

pub loop-j-preserved : goal.loop-j-preserved
loop-j-preserved c =
    let xd = x_dimension c.args.self.now.header in
    let h : c.loop-j.j < z_dimension c.args.self.now.header - 1 = omega (arith, c.loop-j-test.true, c.z_dimension-j-end.ensures) in
    pieces_more ((xd - 1) * 4) (row_width xd (λ (p : ℕ). p ∷ []) 1 (λ p. refl)) (rows_room c.args.self.now.header c.args.k (length c.args.work.now) 4 c.requires) c.loop-j.invariant h refl refl (rw c.x_dimension.ensures at c.put_corner_row.ensures)

pub returns : goal.returns
returns c =
    let h = c.args.self.now.header in
    pieces_all c.loop-j.invariant (omega (arith, c.loop-j-test.false, c.z_dimension-j-end.ensures))
    ∙ ap (spliced c.args.work.now c.args.k) (rows_are (x_dimension h) (λ (p : ℕ). p ∷ []) (z_dimension h - 1) ∙ flat_ones (corner_point (x_dimension h)) (4 * quad_count h) 0)
