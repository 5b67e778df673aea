-- Rounding against a power of two: what `round` keeps of a fraction is at most 2 ^ j units where the fraction is, and at least 2 ^ j where the fraction is.
use mathlib.Core.Path.{◌≡◌, refl, sym, ap, ◌∙◌, subst}
use mathlib.Core.Logic.{◌⊎◌, inl, inr}
use Prim.Native.Nat.{ℕ, suc, ◌-◌, ◌*◌, ◌/◌, ◌%◌, ◌^◌, ◌≤◌, ◌<◌, compare}
use native.Mathlib.Nat.{le_refl, le_trans, le_of_eq, le_of_lt, not-le_of_lt, mul-one, one-mul, mul_comm, mul_left_comm, mul-le-mul_right, mul-pos, le-div_iff_mul-le, div-div-eq-div-mul, div-mul-le_self, le_of_mul-le-mul_right, div-one, mod-one, zero-lt-suc}
use native.Mathlib.Omega.{arith}
use mathlib.Core.Bool.{Bool}
use lib.Dec.{ltb}
use lib.Arith.{le→nltb}
use lib.Pow.{pow_pos, pow_mono, pow-lt}
use lib.Ieee.{Float, inf, Format, prec, low, size, nearest, odd, units, round}
use lib.Ieee.Digits.{size_reaches}
use lib.Ieee.Fits.{round_is, two, two-le_pos}
use lib.Ieee.Exact.{HasValue, units_val}
use lib.Ieee.Nearest.{closest, closest_mono, nearest-ge}
use lib.Ieee.Order.{drop, kept}
use lib.Ieee.Scale.{overflow}
use lib.Ieee.Bits.{cond_no}
use Rattle.lists.proofs.Numbers.{le_or_lt}
use Rattle.lists.proofs.Squares.{pow_split}

closest_whole : (a : ℕ) → closest a 1 ≡ a
closest_whole a = ap (λ (x : ℕ). nearest (a / 1) (compare (x * 2) 1)) (mod-one a) ∙ div-one a

within : (z p j : ℕ) → 0 < p → j < z - p → suc j < z
within z p j P h = omega arith

reaches : (z p k : ℕ) → 0 < p → k ≡ z - p → 0 < k → k < z
reaches z p k P e h = omega arith

pos_of : (j k : ℕ) → j < k → 0 < k
pos_of j k h = omega arith

pub grid_upper : (p n den j : ℕ) → 0 < p → 0 < den → n ≤ 2 ^ j * den → kept p n den * 2 ^ drop p n den ≤ 2 ^ j
grid_upper p n den j P D h = go (le_or_lt (drop p n den) j)
  where
    go : (drop p n den ≤ j) ⊎ (j < drop p n den) → kept p n den * 2 ^ drop p n den ≤ 2 ^ j
    go (inl l) =
        let k = drop p n den in
        let e : 2 ^ (j - k) * (den * 2 ^ k) ≡ 2 ^ j * den = mul_left_comm (2 ^ (j - k)) den (2 ^ k) ∙ ap (λ (x : ℕ). den * x) (pow_split j k l) ∙ mul_comm den (2 ^ j) in
        let c : closest n (den * 2 ^ k) ≤ closest (2 ^ (j - k)) 1 =
        closest_mono n (den * 2 ^ k) (2 ^ (j - k)) 1 (mul-pos D (pow_pos k)) (zero-lt-suc 0) (le_trans (le_of_eq (mul-one n)) (le_trans h (le_of_eq (sym e)))) in
        le_trans (mul-le-mul_right (2 ^ k) (le_trans c (le_of_eq (closest_whole (2 ^ (j - k)))))) (le_of_eq (pow_split j k l))
    go (inr l) =
        let w = n / den in
        let a : w ≤ 2 ^ j = le_of_mul-le-mul_right (le_trans (div-mul-le_self n den) h) D in
        let b : 2 ^ suc j ≤ w = size_reaches w (suc j) (within (size w) p j P l) in
        absurd (not-le_of_lt (pow-lt (le_refl (suc j))) (le_trans b a))

pub grid_lower : (p n den j : ℕ) → 0 < p → 0 < den → 2 ^ j * den ≤ n → 2 ^ j ≤ kept p n den * 2 ^ drop p n den
grid_lower p n den j P D h =
    le_trans (go (le_or_lt (drop p n den) j))
    (mul-le-mul_right (2 ^ drop p n den) (subst (λ (x : ℕ). x ≤ kept p n den) (sym (div-div-eq-div-mul n den (2 ^ drop p n den))) (nearest-ge (n / (den * 2 ^ drop p n den)) (compare (n % (den * 2 ^ drop p n den) * 2) (den * 2 ^ drop p n den)))))
  where
    wide : 2 ^ j ≤ n / den
    wide = (le-div_iff_mul-le D).1 h

    go : (drop p n den ≤ j) ⊎ (j < drop p n den) → 2 ^ j ≤ n / den / 2 ^ drop p n den * 2 ^ drop p n den
    go (inl l) =
        let k = drop p n den in
        let e : 2 ^ (j - k) * 2 ^ k ≡ 2 ^ j = pow_split j k l in
        let a : 2 ^ (j - k) ≤ n / den / 2 ^ k = (le-div_iff_mul-le (pow_pos k)).1 (le_trans (le_of_eq e) wide) in
        le_trans (le_of_eq (sym e)) (mul-le-mul_right (2 ^ k) a)
    go (inr l) =
        let k = drop p n den in
        let b : 2 ^ k ≤ n / den = size_reaches (n / den) k (reaches (size (n / den)) p k P refl (pos_of j k l)) in
        let a : 1 ≤ n / den / 2 ^ k = (le-div_iff_mul-le (pow_pos k)).1 (le_trans (le_of_eq (one-mul (2 ^ k))) b) in
        le_trans (pow_mono (le_of_lt l)) (le_trans (le_of_eq (sym (one-mul (2 ^ k)))) (mul-le-mul_right (2 ^ k) a))

-- ---- z is the fraction num / den, in units of the format's smallest value, rounded, with the sign s: it comes to `p` units, or to an infinity
pub record Rounded (f : Format) (s : Bool) (num den : ℕ) (z : Float) : Type 0 where
  pub p : ℕ
  pub small : p < overflow f → HasValue z s p (2 ^ low f)
  pub big : overflow f ≤ p → z ≡ inf s
  pub upper : (j : ℕ) → num ≤ 2 ^ j * den → p ≤ 2 ^ j
  pub lower : (j : ℕ) → 2 ^ j * den ≤ num → 2 ^ j ≤ p

units_big : (f : Format) (s : Bool) (q k : ℕ) → overflow f ≤ q * 2 ^ k → units f s q k ≡ inf s
unfolding units
units_big f s q k h = cond_no (ltb (q * 2 ^ k) (overflow f)) (odd (suc (prec f)) s q k (low f)) (inf s) (le→nltb (q * 2 ^ k) (overflow f) h)

pub round_rounded : (f : Format) (s : Bool) (num den : ℕ) → 0 < den → Rounded f s (num * 2 ^ low f) den (round f s num den)
round_rounded f s num den D =
    let q = kept (prec f) (num * 2 ^ low f) den in
    let k = drop (prec f) (num * 2 ^ low f) den in
    let P : 0 < prec f = two-le_pos (prec f) (two f) in
    record {
      p = q * 2 ^ k;
      small = λ h. subst (λ (z : Float). HasValue z s (q * 2 ^ k) (2 ^ low f)) (sym (round_is f s num den)) (units_val f s q k h);
      big = λ h. round_is f s num den ∙ units_big f s q k h;
      upper = λ j h. grid_upper (prec f) (num * 2 ^ low f) den j P D h;
      lower = λ j h. grid_lower (prec f) (num * 2 ^ low f) den j P D h;
    }
