use Rattle.shaping.specs.Shared.{listed_shared}
use Rattle.shaping.proofs.shared.listed_shared.Goals as goal

pub returns : goal.returns
unfolding listed_shared
returns c =
    let h = c.args.h in
    λ i. record { ccw = h.ccw; convex = c.args.convex; widths = c.face_widths-widths.ensures i; attributes = c.attributes_of-attributes.ensures i }
