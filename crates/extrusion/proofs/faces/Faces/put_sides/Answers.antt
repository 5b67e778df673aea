use Prim.Native.Nat.{◌*◌, ◌-◌}
use Rattle.lists.proofs.Pieces.{pieces_all, pieces_more, pieces_none}
use Rattle.extrusion.proofs.Sides.{row_width, sides_are}
use Rattle.lists.specs.Parts.{spliced}
use mathlib.Core.Path.{◌∙◌, ap, refl}
use Rattle.extrusion.proofs.faces.Faces.put_sides.Goals as goal

pub loop-i-init : goal.loop-i-init
loop-i-init c = pieces_none

pub loop-i-preserved : goal.loop-i-preserved
loop-i-preserved c =
    pieces_more ((c.args.self.now.m - 1) * 4) (row_width _) c.requires c.loop-i.invariant c.loop-i-test.true refl refl c.put_quad_row.ensures

pub returns : goal.returns
returns c = pieces_all c.loop-i.invariant c.loop-i-test.false ∙ ap (spliced c.args.work.now c.args.k) (sides_are _ _)
