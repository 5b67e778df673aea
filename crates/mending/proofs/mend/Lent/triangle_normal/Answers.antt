use mathlib.Core.Path.{ap, ◌∙◌}
use Rattle.mesh.specs.Mend.{vertex_spot, tri_normal}
use Rattle.mending.specs.Mend.{triangle_normal, lent_frame, lent_keys}
use mathlib.Core.List.{[]}
use Rattle.mending.proofs.mend.Lent.triangle_normal.Goals as goal

pub returns : goal.returns
unfolding triangle_normal
returns c =
    c.tri_normal.ensures ∙ (λ i. tri_normal ((c.spot_of-a.ensures ∙ ap (vertex_spot (lent_frame _) (lent_keys [] _)) c.corner.ensures) i) ((c.spot_of-b.ensures ∙ ap (vertex_spot (lent_frame _) (lent_keys [] _)) c.corner-2.ensures) i) ((c.spot_of-c.ensures ∙ ap (vertex_spot (lent_frame _) (lent_keys [] _)) c.corner-3.ensures) i))
