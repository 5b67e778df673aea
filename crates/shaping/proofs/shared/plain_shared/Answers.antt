use Rattle.shaping.specs.Shared.{plain_widths, plain_shared}
use Rattle.shaping.proofs.shared.plain_shared.Goals as goal

pub returns : goal.returns
unfolding plain_shared plain_widths
returns c = let h = c.args.h in λ i. record { ccw = h.ccw; convex = c.args.convex; widths = record { normal = 3; colour = 0; texture = c.texture_width.ensures i }; attributes = c.plain_attributes-attributes.ensures i }
