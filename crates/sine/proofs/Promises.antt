-- What is promised of sine and cosine, of what is worked out. FORMAT 16.3.
use mathlib.Core.Path.{◌≡◌, refl, sym, ap, ap₂, ◌∙◌, subst}
use mathlib.Core.Logic.{◌⊎◌, inl, inr}
use mathlib.Core.Bool.{Bool, true, false, not, cond}
use Prim.Native.Nat.{ℕ, ◌-◌, ◌*◌, ◌/◌, ◌%◌, ◌^◌, ◌≤◌, ◌<◌}
use native.Mathlib.Omega.{arith}
use lib.Dec.{T, leb, ltb, le→leb, lt→ltb}
use lib.Arith.{lt→nleb, le→nltb}
use lib.Ieee.{Float, nan, inf, fin, binary32, is_nan, of_bits, to_bits, fits}
use lib.Ieee.Bits.{is_true, is_false, of_bits-to_bits}
use Rattle.series.specs.Value.{fine}
use Rattle.lists.proofs.Numbers.{lt_or_le}
use Rattle.sine.specs.declared.whole.SinCos.{SinCos}
use Rattle.sine.specs.Angle.{in_range, Accurate, Promise}
use Rattle.sine.specs.SinCos.{mant, expo, half_of, parts_of, inside_of, sin_cos_of}
use Rattle.sine.proofs.Number.{bits_value}
use Rattle.sine.proofs.Halves.{half_is}
use Rattle.sine.proofs.Final.{low_side, high_side}
use Rattle.sine.proofs.Range.{finite_bits, near_bits, far_bits}

turn : (b : ℕ) → ltb b 2147483648 ≡ not (leb 2147483648 b)
turn b = go (lt_or_le b 2147483648)
  where
    go : (b < 2147483648) ⊎ (2147483648 ≤ b) → ltb b 2147483648 ≡ not (leb 2147483648 b)
    go (inl h) = is_true (ltb b 2147483648) (lt→ltb b 2147483648 h) ∙ ap not (sym (is_false (leb 2147483648 b) (lt→nleb 2147483648 b h)))
    go (inr h) = is_false (ltb b 2147483648) (le→nltb b 2147483648 h) ∙ ap not (sym (is_true (leb 2147483648 b) (le→leb 2147483648 b h)))

abbrev sign : ℕ → Bool
sign b = leb 2147483648 b

abbrev size : ℕ → ℕ
size b = b % 2147483648

cut : (n : ℕ) → n % 16777216 ≤ 16777216
cut n = omega arith

rest : (n : ℕ) → 16777216 - n % 16777216 ≤ 16777216
rest n = omega arith

mirrored : (k : ℕ) → 2048 ≤ k → 4095 - k < 2048
mirrored k h = omega arith

-- on either side of the half turn
module _ (b : ℕ) (h : size b ≤ 1149239296) where
  abbrev q : ℕ
  q = parts_of (size b)

  low : q / 16777216 % 4096 < 2048 → Accurate (of_bits binary32 b) (half_of (q / 16777216 % 4096) (q % 16777216) (sign b)).sin (half_of (q / 16777216 % 4096) (q % 16777216) (sign b)).cos
  unfolding parts_of
  low l = low_side (of_bits binary32 b) _ _ (sign b) (mant (size b) * 2 ^ expo (size b)) q (bits_value b (finite_bits (size b) h)) refl l
      (half_is (q / 16777216 % 4096) (q % 16777216) (sign b) l (cut q))

  high : 2048 ≤ q / 16777216 % 4096
      → Accurate (of_bits binary32 b) (half_of (4095 - q / 16777216 % 4096) (16777216 - q % 16777216) (ltb b 2147483648)).sin
      (half_of (4095 - q / 16777216 % 4096) (16777216 - q % 16777216) (ltb b 2147483648)).cos
  unfolding parts_of
  high l = high_side (of_bits binary32 b) _ _ (sign b) (mant (size b) * 2 ^ expo (size b)) q (bits_value b (finite_bits (size b) h)) refl l
      (rw (turn b) (half_is (4095 - q / 16777216 % 4096) (16777216 - q % 16777216) (not (sign b)) (mirrored (q / 16777216 % 4096) l) (rest q)))

  inside_accurate : Accurate (of_bits binary32 b) (inside_of b).sin (inside_of b).cos
  unfolding inside_of
  inside_accurate = go (lt_or_le (q / 16777216 % 4096) 2048)
    where
      go : (q / 16777216 % 4096 < 2048) ⊎ (2048 ≤ q / 16777216 % 4096) → Accurate (of_bits binary32 b) (inside_of b).sin (inside_of b).cos
      go (inl l) = rw (is_true (ltb (q / 16777216 % 4096) 2048) (lt→ltb (q / 16777216 % 4096) 2048 l)) (low l)
      go (inr l) = rw (is_false (ltb (q / 16777216 % 4096) 2048) (le→nltb (q / 16777216 % 4096) 2048 l)) (high l)

-- what the code finds on either side
pub inside_low : (b m e q k : ℕ) (r : SinCos) → m ≡ mant (size b) → e ≡ expo (size b) → q ≡ m * 2 ^ e / fine → k ≡ q / 16777216 % 4096 → k < 2048
    → r ≡ half_of k (q % 16777216) (sign b) → r ≡ inside_of b
unfolding inside_of parts_of
inside_low b m e q k r f g h i l s =
    let t = is_true (ltb k 2048) (lt→ltb k 2048 l) in
    s ∙ sym (rw (sym (h ∙ ap₂ (λ (x y : ℕ). x * 2 ^ y / fine) f g), sym i, t))

pub inside_high : (b m e q k : ℕ) (r : SinCos) → m ≡ mant (size b) → e ≡ expo (size b) → q ≡ m * 2 ^ e / fine → k ≡ q / 16777216 % 4096 → 2048 ≤ k
    → r ≡ half_of (4095 - k) (16777216 - q % 16777216) (ltb b 2147483648) → r ≡ inside_of b
unfolding inside_of parts_of
inside_high b m e q k r f g h i l s =
    let t = is_false (ltb k 2048) (le→nltb k 2048 l) in
    s ∙ sym (rw (sym (h ∙ ap₂ (λ (x y : ℕ). x * 2 ^ y / fine) f g), sym i, t))

pub in_range_lem : (x : Float) → T (fits binary32 x) → to_bits binary32 x % 2147483648 ≤ 1149239296 → in_range x ≡ true
in_range_lem x f h = ap in_range (sym (of_bits-to_bits binary32 x f)) ∙ near_bits (to_bits binary32 x) h

pub out_of_range : (x : Float) → T (fits binary32 x) → 1149239296 < to_bits binary32 x % 2147483648 → in_range x ≡ false
out_of_range x f h = ap in_range (sym (of_bits-to_bits binary32 x f)) ∙ far_bits (to_bits binary32 x) h

pub none_in_range : (x : Float) → is_nan x ≡ true → in_range x ≡ false
unfolding in_range is_nan
none_in_range nan e = refl
none_in_range (inf s) e = refl
none_in_range (fin s m d) e = absurd (subst T (sym e) tt)

-- FORMAT 16.3: every f32
pub promise : (x : Float) → T (fits binary32 x) → Promise (in_range x) x (sin_cos_of x).sin (sin_cos_of x).cos
unfolding sin_cos_of
promise x f = go (lt_or_le 1149239296 (to_bits binary32 x % 2147483648))
  where
    go : (1149239296 < to_bits binary32 x % 2147483648) ⊎ (to_bits binary32 x % 2147483648 ≤ 1149239296)
        → Promise (in_range x) x (cond (in_range x) (inside_of (to_bits binary32 x)) (record { sin = of_bits binary32 0; cos = of_bits binary32 0x3f80_0000 })).sin
        (cond (in_range x) (inside_of (to_bits binary32 x)) (record { sin = of_bits binary32 0; cos = of_bits binary32 0x3f80_0000 })).cos
    go (inl h) = rw (out_of_range x f h) (refl, refl)
    go (inr h) = rw (in_range_lem x f h) (subst (λ (y : Float). Accurate y (inside_of (to_bits binary32 x)).sin (inside_of (to_bits binary32 x)).cos) (of_bits-to_bits binary32 x f)
        (inside_accurate (to_bits binary32 x) h))
