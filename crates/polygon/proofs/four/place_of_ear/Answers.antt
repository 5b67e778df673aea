use mathlib.Core.Path.{refl, sym, ◌∙◌}
use native.Mathlib.Omega.{arith}
use Rattle.lists.proofs.Loops.{first_go, first_stop, first_end}
use Rattle.lists.specs.Loops.{tab}
use Rattle.polygon.specs.Ears.{first_ear, order}
use Rattle.polygon.specs.Memo.{xy}
use Rattle.polygon.proofs.Quads.{ear_here, no_ear}
use Rattle.polygon.proofs.four.place_of_ear.Goals as goal

pub loop-i-init : goal.loop-i-init
unfolding first_ear order tab
loop-i-init c = refl

pub returns-then-is_ear_of_four : goal.returns-then-is_ear_of_four
returns-then-is_ear_of_four c =
    (c.loop-i-test.true, ear_here (xy c.args.p.now) c.args.rev c.loop-i.i (sym (first_stop _ _ _ c.loop-i-test.true (sym c.is_ear_of_four.ensures ∙ c.if-is_ear_of_four.true)) ∙ c.loop-i.invariant) c.loop-i-test.true)

pub loop-i-preserved : goal.loop-i-preserved
loop-i-preserved c = sym (first_go _ _ _ c.loop-i-test.true (sym c.is_ear_of_four.ensures ∙ c.if-is_ear_of_four.false)) ∙ c.loop-i.invariant

pub returns : goal.returns
returns c =
    let z = sym (first_end _ 4 c.loop-i.i c.loop-i-test.false) ∙ c.loop-i.invariant in
    (omega arith, no_ear (xy c.args.p.now) c.args.rev (omega (arith, z, c.loop-i-test.false)))
