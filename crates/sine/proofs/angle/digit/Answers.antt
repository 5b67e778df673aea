use mathlib.Core.Path.{◌≡◌}
use mathlib.Core.Logic.{◌⊎◌, inl, inr}
use Prim.Native.Nat.{ℕ, ◌+◌, ◌-◌, ◌*◌, ◌/◌, ◌<◌, ◌≤◌}
use native.Mathlib.Omega.{arith}
use Rattle.series.specs.Series.{half_turn}
use Rattle.math.specs.Digit.{Bit}
use Rattle.lists.proofs.Numbers.{lt_or_le}
use Rattle.sine.proofs.angle.digit.Goals as goal

top_bit : (r : ℕ) → r < 2 * half_turn → Bit r half_turn ((r + (9223372036854775808 - half_turn)) / 9223372036854775808)
top_bit r h = go (lt_or_le r half_turn)
  where
    none : r < half_turn → (r + (9223372036854775808 - half_turn)) / 9223372036854775808 ≡ 0
    none l = omega arith

    one : half_turn ≤ r → (r + (9223372036854775808 - half_turn)) / 9223372036854775808 ≡ 1
    one l = omega arith

    go : (r < half_turn) ⊎ (half_turn ≤ r) → Bit r half_turn ((r + (9223372036854775808 - half_turn)) / 9223372036854775808)
    go (inl l) = inl (l, none l)
    go (inr l) = inr (l, one l)

pub overflow_sub-result : goal.overflow_sub-result
overflow_sub-result c = omega arith

pub overflow_add-result : goal.overflow_add-result
overflow_add-result c = omega arith

pub returns : goal.returns
returns c = top_bit c.args.r c.requires
