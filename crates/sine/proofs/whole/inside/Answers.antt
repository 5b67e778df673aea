use Prim.Native.Nat.{ℕ, ◌-◌, ◌%◌, ◌≤◌, ◌<◌}
use native.Mathlib.Omega.{arith}
use Rattle.sine.proofs.Promises.{inside_low, inside_high}
use Rattle.sine.proofs.whole.inside.Goals as goal

-- `sine::inside` meets its contract. Assumes nothing.
far : (k q : ℕ) → 2048 ≤ k → 4095 - k < 2048
far k q h = omega arith

under : (q : ℕ) → 16777216 - q % 16777216 ≤ 16777216
under q = omega arith

pub returns-then-k-lt2048 : goal.returns-then-k-lt2048
returns-then-k-lt2048 c =
    let a = c.args in
    inside_low a.b _ _ _ _ _ c.significand.ensures c.exponent.ensures
    c.parts-q.ensures c.step_of-k.ensures c.if-k-lt2048.true c.half.ensures

pub overflow_sub-k : goal.overflow_sub-k
overflow_sub-k c = omega (arith, c.step_of-k.ensures)

pub half-requires-2 : goal.half-requires-2
half-requires-2 c = (far c.step_of-k.result c.parts-q.result c.if-k-lt2048.false, under c.parts-q.result)

pub returns : goal.returns
returns c =
    let a = c.args in
    inside_high a.b _ _ _ _ _ c.significand.ensures c.exponent.ensures
    c.parts-q.ensures c.step_of-k.ensures c.if-k-lt2048.false c.half-2.ensures
