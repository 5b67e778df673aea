use mathlib.Core.Path.{sym, ◌∙◌}
use native.Mathlib.Nat.{sub-zero}
use Rattle.polygon.specs.Ears.{area, area_term}
use Rattle.lists.proofs.Loops.{run_go, run_end}
use Rattle.polygon.proofs.ears.area_of.Goals as goal

pub loop-i-init : goal.loop-i-init
unfolding area
loop-i-init c = rw sub-zero

pub loop-i-preserved : goal.loop-i-preserved
unfolding area_term
loop-i-preserved c = rw (c.dot_at-a.ensures, c.dot_at-b.ensures, c.place_after.ensures) (sym (run_go _ _ _ _ c.loop-i-test.true) ∙ c.loop-i.invariant)

pub returns : goal.returns
returns c = sym (run_end _ _ _ _ c.loop-i-test.false) ∙ c.loop-i.invariant
