use Rattle.std.proofs.Common.{rules}
use mathlib.Core.Path.{◌≡◌, sym, ◌∙◌}
use Rattle.polygon.specs.Facing.{nought}
use Rattle.polygon.proofs.EdgeSums.{newell_none, newell_start, newell_go, newell_end}
use Rattle.polygon.proofs.facing.newell.Goals as goal

pub returns-in_default : goal.returns-in_default
returns-in_default c = let z : c.default-n.result ≡ nought = search rules in rw z (newell_none _ _ c.in_default.len_below)

pub loop-name-init : goal.loop-name-init
loop-name-init c = let z : c.default-n.result ≡ nought = search rules in rw z (newell_start _ _ _ c.in-len1-up.len_at_least c.spot-first.ensures)

pub loop-name-preserved : goal.loop-name-preserved
loop-name-preserved c =
    newell_go _ _ _ _ _ _ _ _ c.loop-name-test.true c.spot-b.ensures c.add_edge-n.ensures ∙ c.loop-name.invariant

pub returns : goal.returns
returns c = c.add_edge.ensures ∙ sym (newell_end _ _ _ _ _ _ c.loop-name-test.false) ∙ c.loop-name.invariant
