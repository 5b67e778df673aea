-- The root of a significand of 24 digits, shifted to an even power of two: it has 25 digits, and rounds to 24.
use mathlib.Core.Path.{◌≡◌, sym, ap}
use mathlib.Core.Logic.{inl, inr}
use Prim.Native.Nat.{ℕ, ◌+◌, ◌*◌, ◌%◌, ◌^◌, ◌≤◌, ◌<◌}
use native.Mathlib.Omega.{arith}
use Rattle.lists.proofs.Squares.{root_le, parity}
use Rattle.math.specs.SquareRoot.{isqrt, root_digits}
use Rattle.math.proofs.Whole.{IsRoot, isqrt_root}

pub shift_even : (g m : ℕ) → g % 2 ≡ 0 → m * 33554432 ≡ m * 2 ^ (25 + g % 2)
shift_even g m e = ap (λ (k : ℕ). m * 2 ^ (25 + k)) (sym e)

pub shift_odd : (g m : ℕ) → g % 2 ≡ 1 → m * 67108864 ≡ m * 2 ^ (25 + g % 2)
shift_odd g m e = ap (λ (k : ℕ). m * 2 ^ (25 + k)) (sym e)

pub shift_either : (g m : ℕ) → m * 128 * (1 + g % 2) * 2 ^ 18 ≡ m * 2 ^ (25 + g % 2)
shift_either g m = elim (parity g) [ inl e ↦ rw e (omega arith) | inr e ↦ rw e (omega arith) ]

pub shift_fits : (g m : ℕ) → m * 128 * (1 + g % 2) ≤ m * 256
shift_fits g m = elim (parity g) [ inl e ↦ rw e (omega arith) | inr e ↦ rw e (omega arith) ]

module _ (g m : ℕ) (large : 2 ^ 23 ≤ m) (small : m < 2 ^ 24) where
  pub shifted_small : m * 2 ^ (25 + g % 2) ≤ 1125899839733760
  shifted_small = elim (parity g) [ inl e ↦ omega (arith, shift_even g m e) | inr e ↦ omega (arith, shift_odd g m e) ]

  pub shifted_large : 2 ^ 48 ≤ m * 2 ^ (25 + g % 2)
  shifted_large = elim (parity g) [ inl e ↦ omega (arith, shift_even g m e) | inr e ↦ omega (arith, shift_odd g m e) ]

  pub shifted_root : IsRoot (m * 2 ^ (25 + g % 2)) (isqrt 25 (m * 2 ^ (25 + g % 2)))
  shifted_root = isqrt_root 25 (m * 2 ^ (25 + g % 2)) (omega (arith, shifted_small))

  pub root_large : 2 ^ 24 ≤ isqrt 25 (m * 2 ^ (25 + g % 2))
  root_large = root_le (m * 2 ^ (25 + g % 2)) (2 ^ 24) (isqrt 25 (m * 2 ^ (25 + g % 2))) shifted_large shifted_root.high

  pub root_small : isqrt 25 (m * 2 ^ (25 + g % 2)) ≤ 33554430
  root_small = root_le (m * 2 ^ (25 + g % 2)) (isqrt 25 (m * 2 ^ (25 + g % 2))) 33554430 shifted_root.low (omega (arith, shifted_small))

  pub digits_large : 2 ^ 23 ≤ root_digits g m
  unfolding root_digits
  digits_large = omega (arith, root_large)

  pub digits_small : root_digits g m < 2 ^ 24
  unfolding root_digits
  digits_small = omega (arith, root_small)
