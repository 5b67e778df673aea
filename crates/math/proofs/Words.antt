-- Every pattern and every value: which are NaN, and which are finite.
use mathlib.Core.Path.{◌≡◌, refl, sym, ap, ◌∙◌}
use mathlib.Core.Bool.{true, true≢false}
use Prim.Native.Nat.{ℕ, ◌%◌, ◌<◌}
use borrow.Author.Tests.{lt-ltb}
use lib.Ieee.{Float, nan, inf, fin, binary32, div, of_bits, to_bits, is_nan}
use lib.Ieee.Bits.{nan_bits_is, nan_bits_above}
use lib.Ieee.Scale.{finite}
use Rattle.std.specs.Float.{float_is_finite}
use Rattle.math.specs.Vector.{zero_f}

nan_only : (x : Float) → is_nan x ≡ true → nan ≡ x
unfolding is_nan
nan_only nan h = refl
nan_only (inf s) h = absurd (true≢false (sym h))
nan_only (fin s m e) h = absurd (true≢false (sym h))

zero_over_zero : div binary32 zero_f zero_f ≡ nan
unfolding div of_bits
zero_over_zero = refl

pub nan_pattern : (n : ℕ) → 0x7f80_0000 < n % 0x8000_0000 → div binary32 zero_f zero_f ≡ of_bits binary32 n
nan_pattern n h = zero_over_zero ∙ nan_only (of_bits binary32 n) (sym (nan_bits_is binary32 n) ∙ nan_bits_above binary32 n ∙ lt-ltb 0x7f80_0000 (n % 0x8000_0000) h)

pub nan_bits : (x : Float) → is_nan x ≡ true → 0x7fc0_0000 ≡ to_bits binary32 x
unfolding to_bits
nan_bits x h = ap (to_bits binary32) (nan_only x h)

-- as `std` has it
pub finite_is : (x : Float) → float_is_finite x ≡ finite x
unfolding float_is_finite
finite_is nan = refl
finite_is (inf s) = refl
finite_is (fin s m e) = refl
