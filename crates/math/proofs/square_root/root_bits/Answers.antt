use mathlib.Core.Path.{◌∙◌}
use native.Mathlib.Omega.{arith}
use Rattle.math.proofs.Place.{lifted_small, lifted_start, lifted_step, bits_low, bits_high}
use Rattle.math.proofs.square_root.root_bits.Goals as goal

pub loop-m-init : goal.loop-m-init
loop-m-init c = lifted_start c.args.b c.requires.0 c.if-b-lt8388608.true

pub loop-m-preserved : goal.loop-m-preserved
loop-m-preserved c = lifted_step _ _ _ c.loop-m.invariant c.loop-m-test.true

pub join_root-requires : goal.join_root-requires
join_root-requires c = omega (arith, lifted_small _ _ _ c.loop-m.invariant)

pub returns-after-loop-m : goal.returns-after-loop-m
returns-after-loop-m c = c.join_root.ensures ∙ bits_low _ _ _ c.if-b-lt8388608.true c.loop-m.invariant c.loop-m-test.false

pub returns-else-b-lt8388608 : goal.returns-else-b-lt8388608
returns-else-b-lt8388608 c = c.join_root-else-b-lt8388608.ensures ∙ bits_high _ c.if-b-lt8388608.false
