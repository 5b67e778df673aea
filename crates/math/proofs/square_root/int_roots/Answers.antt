use Prim.Native.Nat.{◌^◌, ◌≤◌, ◌<◌}
use native.Mathlib.Omega.{arith}
use Rattle.math.proofs.Digits.{so_far_room, so_far_step, so_far_end}
use Rattle.math.proofs.square_root.int_roots.Goals as goal

pub next_digit-a-requires : goal.next_digit-a-requires
next_digit-a-requires c = let h = so_far_room _ _ _ _ _ c.loop-turns.invariant.0 (omega (arith, c.loop-turns-test.true)) in omega (arith, h, c.loop-turns.invariant.0.small)

pub next_digit-b-requires : goal.next_digit-b-requires
next_digit-b-requires c = let h = so_far_room _ _ _ _ _ c.loop-turns.invariant.1 (omega (arith, c.loop-turns-test.true)) in omega (arith, h, c.loop-turns.invariant.1.small)

pub next_digit-c-requires : goal.next_digit-c-requires
next_digit-c-requires c = let h = so_far_room _ _ _ _ _ c.loop-turns.invariant.2 (omega (arith, c.loop-turns-test.true)) in omega (arith, h, c.loop-turns.invariant.2.small)

pub next_digit-d-requires : goal.next_digit-d-requires
next_digit-d-requires c = let h = so_far_room _ _ _ _ _ c.loop-turns.invariant.3 (omega (arith, c.loop-turns-test.true)) in omega (arith, h, c.loop-turns.invariant.3.small)

pub loop-turns-preserved : goal.loop-turns-preserved
loop-turns-preserved c =
    let l = c.loop-turns-test.true in
    let I = c.loop-turns.invariant in
    (so_far_step _ _ _ _ _ _ _ I.0 l c.next_digit-a.ensures, so_far_step _ _ _ _ _ _ _ I.1 l c.next_digit-b.ensures, so_far_step _ _ _ _ _ _ _ I.2 l c.next_digit-c.ensures, so_far_step _ _ _ _ _ _ _ I.3 l c.next_digit-d.ensures)

pub returns : goal.returns
returns c =
    let I = c.loop-turns.invariant in
    let l : 25 ≤ c.loop-turns.turns = omega (arith, c.loop-turns-test.false) in
    let ha : c.args.s.a < 2 ^ 32 = omega arith in
    let hb : c.args.s.b < 2 ^ 32 = omega arith in
    let hc : c.args.s.c < 2 ^ 32 = omega arith in
    let hd : c.args.s.d < 2 ^ 32 = omega arith in
    (so_far_end _ _ _ _ _ ha I.0 l, so_far_end _ _ _ _ _ hb I.1 l, so_far_end _ _ _ _ _ hc I.2 l, so_far_end _ _ _ _ _ hd I.3 l)
