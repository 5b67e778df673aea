-- How many units of 2 ^ -149 the f32 of a pattern is: by its two fields, and by its place and significand.
use mathlib.Core.Path.{◌≡◌, refl, sym, ap, ap₂, ◌∙◌, subst, subst₂}
use mathlib.Core.Logic.{◌⊎◌, inl, inr}
use mathlib.Core.Bool.{Bool, false, cond}
use Prim.Native.Nat.{ℕ, zero, suc, ◌+◌, ◌-◌, ◌*◌, ◌/◌, ◌%◌, ◌^◌, ◌≤◌, ◌<◌}
use native.Mathlib.Nat.{eq-or-lt_of_le, mul-one, mul_assoc, mul_comm, mul-div_cancel, pow-succ', mod-eq_of_lt, div-eq_of_lt}
use native.Mathlib.Omega.{arith}
use borrow.Author.Tests.{lt-leb, ne_eqb}
use lib.Dec.{eqb}
use lib.Pow.{pow-add}
use lib.Ieee.{Float, nan, inf, fin, binary32, down, size, odd, of_fields, of_bits}
use lib.Ieee.Digits.{size-le}
use lib.Ieee.Exact.{odd_sign}
use lib.Ieee.Fits.{down_pos}
use Rattle.lists.proofs.Numbers.{le_or_lt}
use Rattle.math.specs.SquareRoot.{place, significand}
use Rattle.math.specs.Nearest.{units_of, square}
use Rattle.math.proofs.UnitLaws.{Is}
use Rattle.math.proofs.Place.{place_low, place_high, significand_low, significand_high}

-- ---- the units of a pattern, by its two fields

abbrev pub by_fields : ℕ → ℕ → ℕ
by_fields zero t = t
by_fields (suc x) t = (2 ^ 23 + t) * 2 ^ x

abbrev pub by_bits : ℕ → ℕ
by_bits b = by_fields (b / 2 ^ 23) (b % 2 ^ 23)

fields_is : (f t : ℕ) → f < 255 → Is binary32 (of_fields binary32 false f t) false (by_fields f t)
unfolding of_fields
fields_is zero t h = subst (Is binary32 (odd 24 false t 0 149) false) (mul-one t) (odd_sign 24 false t 0 149)
fields_is (suc x) t h =
    subst (λ (b : Bool). Is binary32 (cond b (cond (eqb t 0) (inf false) nan) (odd 24 false (2 ^ 23 + t) x 149)) false ((2 ^ 23 + t) * 2 ^ x))
    (sym (ne_eqb (suc x) 255 (λ e. omega arith))) (odd_sign 24 false (2 ^ 23 + t) x 149)

pub bits_is : (b : ℕ) → b < 255 * 2 ^ 23 → Is binary32 (of_bits binary32 b) false (by_bits b)
unfolding of_bits
bits_is b h =
    subst₂ (λ (s : Bool) (r : ℕ). Is binary32 (of_fields binary32 s (r / 2 ^ 23) (b % 2 ^ 23)) false (by_bits b))
    (sym (lt-leb (2 ^ 31) b (omega arith))) (sym (mod-eq_of_lt {n = b} {m = 2 ^ 31} (omega arith)))
    (fields_is (b / 2 ^ 23) (b % 2 ^ 23) (omega arith))

-- the units of a value that is given in units
pub units_of_lem : (y : Float) (s : Bool) (a : ℕ) → Is binary32 y s a → units_of y ≡ a
unfolding units_of
units_of_lem nan s a h = absurd h
units_of_lem (inf t) s a h = absurd h
units_of_lem (fin t m e) s a h = ap (λ (x : ℕ). x / down e) h.1 ∙ mul-div_cancel a (down_pos e)

pub units_bits : (b : ℕ) → b < 255 * 2 ^ 23 → units_of (of_bits binary32 b) ≡ by_bits b
units_bits b h = units_of_lem (of_bits binary32 b) false (by_bits b) (bits_is b h)

-- a pattern made of a place k and a number of 24 digits
by_parts : (k h f t : ℕ) → f ≡ suc k → 2 ^ 23 + t ≡ h → by_fields f t ≡ h * 2 ^ k
by_parts k h f t e d = ap (λ (x : ℕ). by_fields x t) e ∙ ap (λ (x : ℕ). x * 2 ^ k) d

pub made_units : (k h : ℕ) → 2 ^ 23 ≤ h → h ≤ 2 ^ 24 → by_bits (k * 2 ^ 23 + h) ≡ h * 2 ^ k
made_units k h l u = go (eq-or-lt_of_le u)
  where
    go : (h ≡ 2 ^ 24) ⊎ (h < 2 ^ 24) → by_bits (k * 2 ^ 23 + h) ≡ h * 2 ^ k
    go (inl e) =
        by_parts (suc k) (2 ^ 23) ((k * 2 ^ 23 + h) / 2 ^ 23) ((k * 2 ^ 23 + h) % 2 ^ 23) (omega arith) (omega arith)
        ∙ ap (λ (x : ℕ). 2 ^ 23 * x) (pow-succ' 2 k)
        ∙ sym (mul_assoc (2 ^ 23) 2 (2 ^ k))
        ∙ ap (λ (x : ℕ). x * 2 ^ k) (sym e)
    go (inr s) = by_parts k h ((k * 2 ^ 23 + h) / 2 ^ 23) ((k * 2 ^ 23 + h) % 2 ^ 23) (omega arith) (omega arith)

-- ---- the argument: its units, by place and significand

pub argument : (b : ℕ) → 0 < b → by_bits b * 2 ^ 24 ≡ significand b * 2 ^ place b
argument b p = go (le_or_lt (2 ^ 23) b)
  where
    high : (f t : ℕ) → f ≡ b / 2 ^ 23 → t ≡ b % 2 ^ 23 → 0 < f → by_fields f t * 2 ^ 24 ≡ (t + 2 ^ 23) * 2 ^ (f + 23)
    high zero t e d q = absurd (none q)
      where
        none : 0 < 0 → ⊥
        none z = omega arith
    high (suc x) t e d q =
        mul_assoc (2 ^ 23 + t) (2 ^ x) (2 ^ 24)
        ∙ ap₂ (λ (u v : ℕ). u * v) (swap (2 ^ 23) t) (sym (pow-add 2 x 24) ∙ ap (λ (k : ℕ). 2 ^ k) (one_over x))
      where
        swap : (u v : ℕ) → u + v ≡ v + u
        swap u v = omega arith

        one_over : (y : ℕ) → y + 24 ≡ suc y + 23
        one_over y = omega arith

    go : (2 ^ 23 ≤ b) ⊎ (b < 2 ^ 23) → by_bits b * 2 ^ 24 ≡ significand b * 2 ^ place b
    go (inl l) =
        high (b / 2 ^ 23) (b % 2 ^ 23) refl refl (omega arith)
        ∙ ap₂ (λ (m g : ℕ). m * 2 ^ g) (sym (significand_high b l)) (sym (place_high b l))
    go (inr l) =
        let e : 24 - size b + size b ≡ 24 = omega (arith, size-le b 23 l) in
        ap (λ (f : ℕ). by_fields f (b % 2 ^ 23) * 2 ^ 24) (div-eq_of_lt l)
        ∙ ap (λ (t : ℕ). t * 2 ^ 24) (mod-eq_of_lt l)
        ∙ ap (λ (x : ℕ). b * x) (ap (λ (k : ℕ). 2 ^ k) (sym e) ∙ pow-add 2 (24 - size b) (size b))
        ∙ sym (mul_assoc b (2 ^ (24 - size b)) (2 ^ size b))
        ∙ ap₂ (λ (m g : ℕ). m * 2 ^ g) (sym (significand_low b l)) (sym (place_low b l))

-- the shifted significand, scaled by the square of the result's place, is the argument
pub scaled : (n m g : ℕ) → n * 2 ^ 24 ≡ m * 2 ^ g → m * 2 ^ (25 + g % 2) * square (2 ^ (g / 2 + 51)) ≡ 4 * 2 ^ 149 * n
scaled n m g e =
    mul_assoc m (2 ^ (25 + g % 2)) (square (2 ^ (g / 2 + 51)))
    ∙ ap (λ (x : ℕ). m * x)
    (ap (λ (x : ℕ). 2 ^ (25 + g % 2) * x) (sym (pow-add 2 (g / 2 + 51) (g / 2 + 51)))
    ∙ sym (pow-add 2 (25 + g % 2) (g / 2 + 51 + (g / 2 + 51)))
    ∙ ap (λ (k : ℕ). 2 ^ k) (total g)
    ∙ pow-add 2 g 127)
    ∙ sym (mul_assoc m (2 ^ g) (2 ^ 127))
    ∙ ap (λ (x : ℕ). x * 2 ^ 127) (sym e)
    ∙ mul_assoc n (2 ^ 24) (2 ^ 127)
    ∙ mul_comm n (2 ^ 151)
  where
    total : (g : ℕ) → 25 + g % 2 + (g / 2 + 51 + (g / 2 + 51)) ≡ g + 127
    total g = omega arith
