-- Bit patterns of angles, and which of them are of size at most 1024. Assumes nothing.
use mathlib.Core.Path.{◌≡◌, refl, sym, ap, ◌∙◌, subst}
use mathlib.Core.Logic.{◌⊎◌, inl, inr}
use mathlib.Core.Bool.{Bool, true, false, cond}
use Prim.Native.Nat.{ℕ, suc, ◌+◌, ◌-◌, ◌*◌, ◌/◌, ◌%◌, ◌^◌, ◌≤◌, ◌<◌, min}
use native.Mathlib.Nat.{le_refl, le_trans, le_of_eq, mul-le-mul, lt_of_lt_of_le, mul-lt-mul_of_pos_right, mul_right_comm, le_of_mul-le-mul_right, eq-or-lt_of_le, not-le_of_lt}
use native.Mathlib.Omega.{arith}
use lib.Dec.{T, leb, eqb, leb→le, le→leb, lit<, lit≤, not_T}
use lib.IntN.{ℤ, pos, negsuc}
use lib.Pow.{pow_pos, pow_mono}
use lib.Ieee.{Float, nan, inf, fin, binary32, up, down, of_fields, of_bits}
use lib.Ieee.Bits.{is_true, is_false}
use lib.Ieee.Exact.{HasValue}
use Rattle.lists.proofs.Numbers.{lt_or_le}
use Rattle.sine.specs.SinCos.{mant, expo}
use Rattle.sine.specs.Angle.{unit, in_range}
use Rattle.sine.proofs.Number.{bits_value}

pub finite_bits : (a : ℕ) → a ≤ 1149239296 → a < 2139095040
finite_bits a h = omega arith

-- ---- the range, by units
scaled : (d : ℕ) → 2 ^ 159 * d ≡ 1024 * d * 2 ^ 149
scaled d = mul_right_comm 1024 (2 ^ 149) d

in_units : (x : Float) (s : Bool) (n : ℕ) → HasValue x s n unit → n ≤ 2 ^ 159 → in_range x ≡ true
unfolding in_range
in_units nan s n v h = absurd v
in_units (inf t) s n v h = absurd v
in_units (fin t m e) s n v h =
    is_true (leb (m * up e) (1024 * down e)) (le→leb (m * up e) (1024 * down e)
    (le_of_mul-le-mul_right {k = 2 ^ 149} (le_trans (le_of_eq v.1) (le_trans (mul-le-mul h (le_refl (down e))) (le_of_eq (scaled (down e))))) (pow_pos 149)))

down_pos : (e : ℤ) → 0 < down e
down_pos (pos k) = lit< tt
down_pos (negsuc k) = pow_pos (suc k)

out_units : (x : Float) (s : Bool) (n : ℕ) → HasValue x s n unit → 2 ^ 159 < n → in_range x ≡ false
unfolding in_range
out_units nan s n v h = absurd v
out_units (inf t) s n v h = absurd v
out_units (fin t m e) s n v h =
    is_false (leb (m * up e) (1024 * down e)) (not_T (leb (m * up e) (1024 * down e)) (λ (t : T (leb (m * up e) (1024 * down e))).
    not-le_of_lt (mul-lt-mul_of_pos_right h (down_pos e))
    (le_trans (le_of_eq (sym v.1)) (le_trans (mul-le-mul (leb→le (m * up e) (1024 * down e) t) (le_refl (2 ^ 149))) (le_of_eq (sym (scaled (down e))))))))

-- ---- the range, by patterns
within : (a : ℕ) → a ≤ 1149239296 → mant a * 2 ^ expo a ≤ 2 ^ 159
within a h = go (eq-or-lt_of_le h)
  where
    small : (a : ℕ) → a < 1149239296 → a / 8388608 - 1 ≤ 135
    small a h = omega arith

    digits : (a : ℕ) → a % 8388608 + 8388608 * min (a / 8388608) 1 ≤ 16777216
    digits a = omega arith

    go : (a ≡ 1149239296) ⊎ (a < 1149239296) → mant a * 2 ^ expo a ≤ 2 ^ 159
    go (inl e) = subst (λ (x : ℕ). mant x * 2 ^ expo x ≤ 2 ^ 159) (sym e) (lit≤ {m = mant 1149239296 * 2 ^ expo 1149239296} {n = 2 ^ 159} tt)
    go (inr l) = mul-le-mul (digits a) (pow_mono {i = expo a} {j = 135} (small a l))

beyond : (a : ℕ) → 1149239296 < a → 2 ^ 159 < mant a * 2 ^ expo a
beyond a h = go (lt_or_le a 1157627904)
  where
    first : (a : ℕ) → 1149239296 < a → a < 1157627904 → 8388609 ≤ a % 8388608 + 8388608 * min (a / 8388608) 1
    first a h k = omega arith

    field : (a : ℕ) → 1149239296 < a → 136 ≤ a / 8388608 - 1
    field a h = omega arith

    later : (a : ℕ) → 1157627904 ≤ a → 137 ≤ a / 8388608 - 1
    later a h = omega arith

    digits : (a : ℕ) → 1149239296 < a → 8388608 ≤ a % 8388608 + 8388608 * min (a / 8388608) 1
    digits a h = omega arith

    go : (a < 1157627904) ⊎ (1157627904 ≤ a) → 2 ^ 159 < mant a * 2 ^ expo a
    go (inl k) = lt_of_lt_of_le (lit< {m = 2 ^ 159} {n = 8388609 * 2 ^ 136} tt) (mul-le-mul (first a h k) (pow_mono {i = 136} {j = expo a} (field a h)))
    go (inr k) = lt_of_lt_of_le (lit< {m = 2 ^ 159} {n = 8388608 * 2 ^ 137} tt) (mul-le-mul (digits a h) (pow_mono {i = 137} {j = expo a} (later a k)))

pub near_bits : (b : ℕ) → b % 2147483648 ≤ 1149239296 → in_range (of_bits binary32 b) ≡ true
near_bits b h = in_units (of_bits binary32 b) (leb 2147483648 b) (mant (b % 2147483648) * 2 ^ expo (b % 2147483648)) (bits_value b (finite_bits (b % 2147483648) h)) (within (b % 2147483648) h)

top_fields : (s : Bool) (t : ℕ) → in_range (of_fields binary32 s 255 t) ≡ false
unfolding of_fields in_range
top_fields s t = pick (eqb t 0)
  where
    pick : (q : Bool) → in_range (cond q (inf s) nan) ≡ false
    pick true = refl
    pick false = refl

pub far_bits : (b : ℕ) → 1149239296 < b % 2147483648 → in_range (of_bits binary32 b) ≡ false
unfolding of_bits
far_bits b h = go (lt_or_le (b % 2147483648) 2139095040)
  where
    top : (b : ℕ) → 2139095040 ≤ b % 2147483648 → b % 2147483648 / 8388608 ≡ 255
    top b k = omega arith

    go : (b % 2147483648 < 2139095040) ⊎ (2139095040 ≤ b % 2147483648) → in_range (of_bits binary32 b) ≡ false
    go (inl k) = out_units (of_bits binary32 b) (leb 2147483648 b) (mant (b % 2147483648) * 2 ^ expo (b % 2147483648)) (bits_value b k) (beyond (b % 2147483648) h)
    go (inr k) = ap (λ (x : ℕ). in_range (of_fields binary32 (leb 2147483648 b) x (b % 8388608))) (top b k) ∙ top_fields (leb 2147483648 b) (b % 8388608)
