use Rattle.std.proofs.Common.{rules, ◌≡◌}
use Rattle.math.specs.Vector.{zero_f}
use Rattle.block.specs.Settings.{pair, finite_transform}
use Rattle.block.proofs.settings.finite_transform.Goals as goal

pub returns : goal.returns
unfolding finite_transform
returns c = let z : c.default-zero.result ≡ pair zero_f zero_f = search rules in cc
