use Rattle.sizes.proofs.Calls.{asked}
use Rattle.geometry.proofs.ByKind.{shaped_at}
use Rattle.geometry.proofs.kinds.make_kind.Goals as goal

pub returns-in-FaceSet-clause-made : goal.returns-in-FaceSet-clause-made
returns-in-FaceSet-clause-made c =
    shaped_at (asked c.args.a.now c.requires.0) _ c.in-FaceSet.is _ _ _ _ _ _ c.make_face_set.ensures.made

pub returns-in-LineSet-clause-made : goal.returns-in-LineSet-clause-made
returns-in-LineSet-clause-made c =
    shaped_at (asked c.args.a.now c.requires.0) _ c.in-LineSet.is _ _ _ _ _ _ c.make_line_set.ensures.made

pub returns-in-Grid-clause-made : goal.returns-in-Grid-clause-made
returns-in-Grid-clause-made c =
    shaped_at (asked c.args.a.now c.requires.0) _ c.in-Grid.is _ _ _ _ _ _ c.make_grid.ensures.made

pub returns-in-Extrusion-clause-made : goal.returns-in-Extrusion-clause-made
returns-in-Extrusion-clause-made c =
    shaped_at (asked c.args.a.now c.requires.0) _ c.in-Extrusion.is _ _ _ _ _ _ c.make_extrusion.ensures.made

pub returns-in-Primitives-clause-made : goal.returns-in-Primitives-clause-made
returns-in-Primitives-clause-made c =
    shaped_at (asked c.args.a.now c.requires.0) _ c.in-Primitives.is _ _ _ _ _ _ c.make_primitives.ensures.made
