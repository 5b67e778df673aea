-- Which value an f32 is, by its comparisons with 0 and with infinity, and the bits of one that is positive and finite.
use mathlib.Core.Path.{◌≡◌, refl, sym, ap, ◌∙◌, subst}
use mathlib.Core.Logic.{◌⊎◌, inl, inr}
use mathlib.Core.Bool.{Bool, true, false, not, ◌&&◌, true≢false}
use Prim.Native.Nat.{ℕ, zero, suc, ◌+◌, ◌-◌, ◌*◌, ◌/◌, ◌%◌, ◌^◌, ◌≤◌, ◌<◌}
use native.Mathlib.Nat.{zero-mul, mul-pos, zero-lt-suc, mul_right_comm, mul-lt-mul_of_pos_right, div-lt_iff_lt-mul, le-div_iff_mul-le, one-mul, le_trans, mul-le-mul_right, eq-zero-or-pos, div-one}
use native.Mathlib.Omega.{arith}
use borrow.Author.Tests.{ltb-true, ltb-false, le-ltb}
use lib.Dec.{T, leb, ltb, eqb, ltb→lt}
use lib.IntN.{ℤ}
use lib.Pow.{pow_pos}
use lib.Ieee.{Float, nan, inf, fin, binary32, up, down, size, fits, lt, div, of_bits, to_bits, is_nan, nan_bits}
use lib.Ieee.Bits.{nan_bits_above}
use lib.Ieee.Positive.{positive}
use lib.Ieee.Digits.{size-le}
use lib.Ieee.Fits.{up_pos, down_pos, kept-lt, and_r}
use Rattle.lists.proofs.Tests.{and_both}
use Rattle.math.specs.SquareRoot.{root_of, root_bits}
use Rattle.math.specs.Vector.{zero_f}
use Rattle.math.specs.Digit.{Plain, plain}
use Rattle.math.proofs.UnitLaws.{down_fits}

-- bits up to those of infinity are no NaN's
pub plain_pattern : (n : ℕ) → n % 0x8000_0000 ≤ 0x7f80_0000 → T (not (nan_bits binary32 n))
plain_pattern n h = subst (λ (b : Bool). T (not b)) (sym (nan_bits_above binary32 n ∙ le-ltb 0x7f80_0000 (n % 0x8000_0000) h)) tt

-- positive infinity, as the code writes it
abbrev pub inf_f : Float
inf_f = of_bits binary32 0x7f80_0000

-- x is finite and above 0
pub record Positive (x : Float) : Type 0 where
  pub lead : ℕ
  pub exp : ℤ
  pub is : x ≡ fin false (suc lead) exp

pub positive_is : (x : Float) → T (positive x) → Positive x
positive_is nan p = absurd p
positive_is (inf s) p = absurd p
positive_is (fin true m e) p = absurd p
positive_is (fin false zero e) p = absurd p
positive_is (fin false (suc m) e) p = record { lead = m; exp = e; is = refl }

-- ---- the comparisons that `lt` makes with 0, of a zero and of a number that is none

pub nothing : (d : ℕ) → 0 * 1 * d ≡ 0
nothing d = omega arith

pub not_below : (a d : ℕ) → ltb a (0 * 1 * d) ≡ true → ⊥
not_below a d h = let l = ltb-true a (0 * 1 * d) h in omega (arith, nothing d, l)

not_above : (e : ℤ) (d : ℕ) → ltb (0 * 1 * d) (0 * up e * 1) ≡ true → ⊥
not_above e d h = let l = ltb-true (0 * 1 * d) (0 * up e * 1) h in omega (arith, l, ap (λ (x : ℕ). x * 1) (zero-mul (up e)))

not_under : (e : ℤ) (d : ℕ) → ltb 0 (0 * up e * 1 + 0 * 1 * d) ≡ true → ⊥
not_under e d h = let l = ltb-true 0 (0 * up e * 1 + 0 * 1 * d) h in omega (arith, l, nothing d, ap (λ (x : ℕ). x * 1) (zero-mul (up e)))

pub some : (m : ℕ) (e : ℤ) → 0 < suc m * up e * 1
some m e = let p = mul-pos (zero-lt-suc m) (up_pos e) in omega arith

not_at_most : (m : ℕ) (e : ℤ) (d : ℕ) → ltb (0 * 1 * d) (suc m * up e * 1) ≡ false → ⊥
not_at_most m e d h = let l = ltb-false (0 * 1 * d) (suc m * up e * 1) h in omega (arith, l, nothing d, some m e)

pub not_level : (m : ℕ) (e : ℤ) (d : ℕ) → ltb 0 (suc m * up e * 1 + 0 * 1 * d) ≡ false → ⊥
not_level m e d h = let l = ltb-false 0 (suc m * up e * 1 + 0 * 1 * d) h in omega (arith, l, some m e)

-- ---- what the tests of `root` say of its argument

pub above_finite : (x : Float) → lt zero_f x ≡ true → lt x inf_f ≡ true → Positive x
unfolding lt of_bits
above_finite nan h k = absurd (true≢false (sym h))
above_finite (inf true) h k = absurd (true≢false (sym h))
above_finite (inf false) h k = absurd (true≢false (sym k))
above_finite (fin true m e) h k = absurd (true≢false (sym h))
above_finite (fin false zero e) h k = absurd (not_above e (down e) h)
above_finite (fin false (suc m) e) h k = record { lead = m; exp = e; is = refl }

pub above_infinite : (x : Float) → lt zero_f x ≡ true → lt x inf_f ≡ false → x ≡ root_of x
unfolding lt of_bits root_of
above_infinite nan h k = refl
above_infinite (inf true) h k = absurd (true≢false (sym h))
above_infinite (inf false) h k = refl
above_infinite (fin s m e) h k = absurd (true≢false k)

pub below_zero : (x : Float) → lt x zero_f ≡ true → div binary32 zero_f zero_f ≡ root_of x
unfolding lt of_bits root_of div
below_zero nan h = refl
below_zero (inf true) h = refl
below_zero (inf false) h = absurd (true≢false (sym h))
below_zero (fin false m e) h = absurd (not_below (m * up e * 1) (down e) h)
below_zero (fin true zero e) h = absurd (not_under e (down e) h)
below_zero (fin true (suc m) e) h = refl

pub neither : (x : Float) → lt zero_f x ≡ false → lt x zero_f ≡ false → x ≡ root_of x
unfolding lt of_bits root_of
neither nan h k = refl
neither (inf true) h k = absurd (true≢false k)
neither (inf false) h k = refl
neither (fin false zero e) h k = refl
neither (fin true zero e) h k = refl
neither (fin false (suc m) e) h k = absurd (not_at_most m e (down e) h)
neither (fin true (suc m) e) h k = absurd (not_level m e (down e) k)

-- ---- the bits of a positive value

-- how many of the smallest f32, 2 ^ -149, the value is
module _ (m : ℕ) (e : ℤ) (small : down e ≤ 2 ^ 149) (fine : suc m * up e < 2 ^ 128 * down e) where
  units_pos : 0 < suc m * up e * 2 ^ 149 / down e
  units_pos =
      (le-div_iff_mul-le (down_pos e)).1
      (le_trans (subst (λ (x : ℕ). x ≤ 2 ^ 149) (sym (one-mul (down e))) small)
      (subst (λ (x : ℕ). x ≤ suc m * up e * 2 ^ 149) (one-mul (2 ^ 149)) (mul-le-mul_right (2 ^ 149) (mul-pos (zero-lt-suc m) (up_pos e)))))

  units_lt : suc m * up e * 2 ^ 149 / down e < 2 ^ 277
  units_lt =
      (div-lt_iff_lt-mul (down_pos e)).1
      (subst (λ (x : ℕ). suc m * up e * 2 ^ 149 < x) (mul_right_comm (2 ^ 128) (down e) (2 ^ 149)) (mul-lt-mul_of_pos_right fine (pow_pos 149)))

bits_in : (n : ℕ) → 0 < n → n < 2 ^ 277 → (0 < 0 + (size n - 24) * 2 ^ 23 + n / 2 ^ (size n - 24)) × (0 + (size n - 24) * 2 ^ 23 + n / 2 ^ (size n - 24) < 255 * 2 ^ 23)
bits_in n p l = (lower (eq-zero-or-pos (size n - 24)), omega (arith, size-le n 277 l, kept-lt 24 n))
  where
    lower : (size n - 24 ≡ 0) ⊎ (0 < size n - 24) → 0 < 0 + (size n - 24) * 2 ^ 23 + n / 2 ^ (size n - 24)
    lower (inl z) = omega (arith, ap (λ (k : ℕ). n / 2 ^ k) z ∙ div-one n, p)
    lower (inr q) = omega (arith, q)

pub positive_bits : (m : ℕ) (e : ℤ) → T (fits binary32 (fin false (suc m) e)) → (0 < to_bits binary32 (fin false (suc m) e)) × (to_bits binary32 (fin false (suc m) e) < 255 * 2 ^ 23)
unfolding fits to_bits
positive_bits m e h =
    let A = eqb (suc m % 2) 1 in
    let B = ltb (suc m) (2 ^ 24) in
    let C = leb (down e) (2 ^ 149) in
    let D = ltb (suc m * up e) (2 ^ 128 * down e) in
    let s = down_fits binary32 false m e h in
    let f = ltb→lt (suc m * up e) (2 ^ 128 * down e) (and_r (A && B && C) D h) in
    bits_in (suc m * up e * 2 ^ 149 / down e) (units_pos m e s f) (units_lt m e s f)

-- ---- the same of a value that is known to be positive

pub positive_no_nan : (x : Float) → Positive x → T (not (is_nan x))
positive_no_nan x p = subst (λ (y : Float). T (not (is_nan y))) (sym p.is) (unfold is_nan in tt)

pub positive_in : (x : Float) → Positive x → T (fits binary32 x) → (0 < to_bits binary32 x) × (to_bits binary32 x < 255 * 2 ^ 23)
positive_in x p h =
    subst (λ (y : Float). (0 < to_bits binary32 y) × (to_bits binary32 y < 255 * 2 ^ 23)) (sym p.is)
    (positive_bits p.lead p.exp (subst (λ (y : Float). T (fits binary32 y)) p.is h))

pub positive_root : (x : Float) → Positive x → of_bits binary32 (root_bits (to_bits binary32 x)) ≡ root_of x
positive_root x p = subst (λ (y : Float). of_bits binary32 (root_bits (to_bits binary32 y)) ≡ root_of y) (sym p.is) (unfold root_of in refl)

-- ---- a value that is known to be plain

pub plain_positive : (x : Float) → plain x ≡ true → Positive x
unfolding plain
plain_positive x h =
    let k = and_both (lt zero_f x && lt x inf_f) (ltb 8388607 (to_bits binary32 x)) h in
    let m = and_both (lt zero_f x) (lt x inf_f) k.0 in
    above_finite x m.0 m.1

pub plain_in : (x : Float) → plain x ≡ true → T (fits binary32 x) → Plain (to_bits binary32 x)
unfolding plain
plain_in x h f =
    let k = and_both (lt zero_f x && lt x inf_f) (ltb 8388607 (to_bits binary32 x)) h in
    let l = ltb-true 8388607 (to_bits binary32 x) k.1 in
    (omega (arith, l), (positive_in x (plain_positive x h) f).1)
