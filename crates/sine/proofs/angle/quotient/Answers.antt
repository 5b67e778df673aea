use native.Mathlib.Omega.{arith}
use Rattle.sine.proofs.Division.{div_none, div_start, div_next, div_end, digit_fits, digit_low}
use Rattle.sine.proofs.angle.quotient.Goals as goal

pub returns-then-n-lt37 : goal.returns-then-n-lt37
returns-then-n-lt37 c = div_none c.args.m c.args.n (omega arith) (omega arith)

pub overflow_mul-r : goal.overflow_mul-r
overflow_mul-r c = omega arith

pub loop-i-init : goal.loop-i-init
loop-i-init c = div_start _ _ (omega arith) (omega arith)

pub overflow_add-r : goal.overflow_add-r
overflow_add-r c = omega (arith, c.loop-i.invariant.rest)

pub digit-b-requires : goal.digit-b-requires
digit-b-requires c = omega (arith, c.loop-i.invariant.rest)

pub overflow_add-q : goal.overflow_add-q
overflow_add-q c = omega (arith, c.loop-i.invariant.small)

pub overflow_add-q-in-loop-i : goal.overflow_add-q-in-loop-i
overflow_add-q-in-loop-i c = omega (arith, c.loop-i.invariant.small, digit_low _ _ c.digit-b.ensures)

pub overflow_add-r-in-loop-i : goal.overflow_add-r-in-loop-i
overflow_add-r-in-loop-i c = omega (arith, c.loop-i.invariant.rest)

pub overflow_mul-r-in-loop-i : goal.overflow_mul-r-in-loop-i
overflow_mul-r-in-loop-i c = omega (arith, c.loop-i.invariant.rest, digit_fits _ _ c.loop-i.invariant.rest c.digit-b.ensures)

pub overflow_sub-r : goal.overflow_sub-r
overflow_sub-r c = digit_fits _ _ c.loop-i.invariant.rest c.digit-b.ensures

pub loop-i-preserved : goal.loop-i-preserved
loop-i-preserved c = div_next _ _ _ _ _ _ (omega arith) (omega arith) c.loop-i.invariant c.loop-i-test.true c.digit-b.ensures

pub returns : goal.returns
returns c = div_end _ _ _ _ _ c.loop-i.invariant c.loop-i-test.false
