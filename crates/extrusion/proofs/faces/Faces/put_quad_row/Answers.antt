use Rattle.lists.proofs.Pieces.{pieces_more, pieces_none}
use Rattle.extrusion.proofs.Sides.{quad_length}
use mathlib.Core.Path.{refl}
use Rattle.extrusion.proofs.faces.Faces.put_quad_row.Goals as goal

pub loop-j-init : goal.loop-j-init
loop-j-init c = pieces_none

pub loop-j-preserved : goal.loop-j-preserved
loop-j-preserved c =
    pieces_more 4 (quad_length _ _) c.requires.1 c.loop-j.invariant c.loop-j-test.true refl refl c.put_quad.ensures
