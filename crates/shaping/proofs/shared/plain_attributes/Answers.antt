use Rattle.std.proofs.Common.{rules, ◌≡◌}
use Rattle.mesh.specs.Words.{no4}
use Rattle.shaping.specs.Shared.{plain_attributes}
use Rattle.shaping.proofs.shared.plain_attributes.Goals as goal

pub returns : goal.returns
unfolding plain_attributes
returns c = let z : c.default.result ≡ no4 = search rules in rw (c.color_stream-colours.ensures, z)
