use mathlib.Core.List.{List}
use mathlib.Core.Path.{ap, ◌∙◌}
use lib.Seq.{sets}
use Rattle.polygon.specs.Ears.{Pt}
use Rattle.polygon.specs.Plane.{flat2}
use Rattle.polygon.proofs.Projection.{seen_behind, seen_before}
use Rattle.polygon.proofs.plane.project.Goals as goal

pub returns-then-entry_of : goal.returns-then-entry_of
returns-then-entry_of c =
    c.put_entries.ensures
    ∙ ap (λ (q : List Pt). sets c.args.plane.now 0 (flat2 q))
    (seen_behind c.args.ccw c.args.normal _ _ _ c.handed_of-n.ensures c.axis_of-axis.ensures.is c.entry_of.ensures _ c.if-entry_of.true)

pub returns-else-entry_of : goal.returns-else-entry_of
returns-else-entry_of c =
    c.put_entries-else-entry_of.ensures
    ∙ ap (λ (q : List Pt). sets c.args.plane.now 0 (flat2 q))
    (seen_before c.args.ccw c.args.normal _ _ _ c.handed_of-n.ensures c.axis_of-axis.ensures.is c.entry_of.ensures _ c.if-entry_of.false)
