use Prim.Native.Nat.{◌^◌, ◌<◌}
use native.Mathlib.Omega.{arith}
use Rattle.math.proofs.Digits.{so_far_room, so_far_step, so_far_end}
use Rattle.math.proofs.square_root.int_root.Goals as goal

pub next_digit-d-requires : goal.next_digit-d-requires
next_digit-d-requires c = let h = so_far_room _ _ _ _ _ c.loop-done.invariant (omega (arith, c.loop-done-test.true)) in omega (arith, h)

pub loop-done-preserved : goal.loop-done-preserved
loop-done-preserved c = so_far_step _ _ _ _ _ _ _ c.loop-done.invariant (omega (arith, c.loop-done-test.true)) c.next_digit-d.ensures

pub returns : goal.returns
returns c = let h : c.args.s < 2 ^ 32 = omega arith in so_far_end _ _ _ _ _ h c.loop-done.invariant (omega (arith, c.loop-done-test.false))
