-- The root in units of 2 ^ -149: D units have a root on the same side of each power of two as √(D * 2 ^ 149).
use mathlib.Core.Path.{◌≡◌, refl, sym, ap, ◌∙◌, subst}
use mathlib.Core.Logic.{◌⊎◌, inl, inr}
use mathlib.Core.Bool.{true, false, true≢false}
use Prim.Native.Nat.{ℕ, zero, suc, ◌+◌, ◌-◌, ◌*◌, ◌/◌, ◌%◌, ◌^◌, ◌≤◌, ◌<◌, zero-le}
use native.Mathlib.Nat.{le_trans, le_of_eq, le_of_lt, lt_of_lt_of_le, lt_of_le_of_lt, lt_irrefl, not-le_of_lt, zero-mul, one-mul, mul_comm, mul_assoc, mul-mul-mul_comm, mul-le-mul_left, mul-le-mul_right, mul-lt-mul_of_pos_right, lt_of_mul-lt-mul_right, le_of_mul-le-mul_right, mul-pos, eq-zero-or-pos, pow-succ'}
use native.Mathlib.Omega.{arith}
use lib.Dec.{T}
use lib.Pow.{pow_pos, pow_mono}
use lib.Ieee.{Float, nan, inf, fin, binary32, up, down, fits, of_bits, to_bits}
use lib.Ieee.Fits.{down_pos}
use lib.Ieee.Bits.{of_bits-to_bits}
use lib.Ieee.Scale.{finite}
use Rattle.lists.proofs.Numbers.{le_or_lt}
use Rattle.lists.proofs.Squares.{square_double, square_less, square_le, pow_split}
use Rattle.math.specs.SquareRoot.{isqrt, place, significand, root_digits, joined, root_bits, root_of}
use Rattle.math.specs.Nearest.{units_of, square}
use Rattle.math.proofs.Whole.{IsRoot}
use Rattle.math.proofs.UnitLaws.{Is}
use Rattle.math.proofs.Chain.{RootUp, RootLo}
use Rattle.math.proofs.RootDigits.{shifted_root, root_large, digits_large, digits_small}
use Rattle.math.proofs.Place.{placed, root_bits_lt}
use Rattle.math.proofs.Sorts.{Positive, positive_in, positive_root}
use Rattle.math.proofs.Pattern.{by_bits, bits_is, units_of_lem, units_bits, made_units, argument, scaled}

-- y is the root of D units: it has r units
pub record RootAt (D : ℕ) (y : Float) : Type 0 where
  pub r : ℕ
  pub is : Is binary32 y false r
  pub up_by : RootUp D r
  pub lo_by : RootLo D r

-- ---- the digits against a power of two: q is the whole root of A, and A at the place k is 4 N

half_up : (q p : ℕ) → q ≤ 2 * p → (q + 1) / 2 ≤ p
half_up q p h = omega arith

half_lo : (q p : ℕ) → 2 * p < q + 1 → p ≤ (q + 1) / 2
half_lo q p h = omega arith

module _ (A q k N j : ℕ) (w : IsRoot A q) (large : 2 ≤ q) (e : A * square (2 ^ k) ≡ 4 * N) where
  -- a power of two with k places or more, twice
  split : k ≤ j → 2 * 2 ^ j ≡ 2 * 2 ^ (j - k) * 2 ^ k
  split l = ap (λ (x : ℕ). 2 * x) (sym (pow_split j k l)) ∙ sym (mul_assoc 2 (2 ^ (j - k)) (2 ^ k))

  digits_up : N ≤ 2 ^ j * 2 ^ j → (q + 1) / 2 * 2 ^ k ≤ 2 ^ j
  digits_up h = go (le_or_lt k j)
    where
      within : q * 2 ^ k ≤ 2 * 2 ^ j
      within =
          square_le (q * 2 ^ k) (2 * 2 ^ j)
          (le_trans (le_of_eq (mul-mul-mul_comm q (2 ^ k) q (2 ^ k)))
          (le_trans (mul-le-mul_right (square (2 ^ k)) w.low)
          (le_trans (le_of_eq e) (le_trans (mul-le-mul_left 4 h) (le_of_eq (sym (square_double (2 ^ j))))))))

      none : (x y : ℕ) → 0 < x → 2 * x ≤ y → y ≤ x → ⊥
      none x y p a b = omega arith

      go : (k ≤ j) ⊎ (j < k) → (q + 1) / 2 * 2 ^ k ≤ 2 ^ j
      go (inl l) =
          let a : q ≤ 2 * 2 ^ (j - k) = le_of_mul-le-mul_right (le_trans within (le_of_eq (split l))) (pow_pos k) in
          le_trans (mul-le-mul_right (2 ^ k) (half_up q (2 ^ (j - k)) a)) (le_of_eq (pow_split j k l))
      go (inr l) =
          absurd (none (2 ^ k) (q * 2 ^ k) (pow_pos k) (mul-le-mul_right (2 ^ k) large)
          (le_trans within (le_trans (le_of_eq (sym (pow-succ' 2 j))) (pow_mono l))))

  digits_lo : 2 ^ j * 2 ^ j ≤ N → 2 ^ j ≤ (q + 1) / 2 * 2 ^ k
  digits_lo h = go (le_or_lt k j)
    where
      within : 2 * 2 ^ j < (q + 1) * 2 ^ k
      within =
          square_less (2 * 2 ^ j) ((q + 1) * 2 ^ k)
          (lt_of_le_of_lt (le_trans (le_of_eq (square_double (2 ^ j))) (le_trans (mul-le-mul_left 4 h) (le_of_eq (sym e))))
          (lt_of_lt_of_le (mul-lt-mul_of_pos_right w.high (mul-pos (pow_pos k) (pow_pos k)))
          (le_of_eq (sym (mul-mul-mul_comm (q + 1) (2 ^ k) (q + 1) (2 ^ k))))))

      go : (k ≤ j) ⊎ (j < k) → 2 ^ j ≤ (q + 1) / 2 * 2 ^ k
      go (inl l) =
          let a : 2 * 2 ^ (j - k) < q + 1 = lt_of_mul-lt-mul_right (2 ^ k) (lt_of_le_of_lt (le_of_eq (sym (split l))) within) in
          le_trans (le_of_eq (sym (pow_split j k l))) (mul-le-mul_right (2 ^ k) (half_lo q (2 ^ (j - k)) a))
      go (inr l) =
          le_trans (pow_mono (le_of_lt l)) (le_trans (le_of_eq (sym (one-mul (2 ^ k)))) (mul-le-mul_right (2 ^ k) (half_lo q 1 (omega arith))))

-- ---- the root of a positive f32, by its bits

bits_root : (b D : ℕ) → 0 < b → b < 255 * 2 ^ 23 → by_bits b ≡ D → RootAt D (of_bits binary32 (root_bits b))
unfolding root_bits joined root_digits
bits_root b D p s d =
    let g = place b in
    let m = significand b in
    let k = g / 2 + 51 in
    let A = m * 2 ^ (25 + g % 2) in
    let q = isqrt 25 A in
    let z = placed b p s in
    let w = shifted_root g m z.full z.held in
    let large : 2 ≤ q = omega (arith, root_large g m z.full z.held) in
    let e : A * square (2 ^ k) ≡ 4 * (D * 2 ^ 149) =
    scaled D m g (ap (λ (x : ℕ). x * 2 ^ 24) (sym d) ∙ argument b p) ∙ mul_assoc 4 (2 ^ 149) D ∙ ap (λ (x : ℕ). 4 * x) (mul_comm (2 ^ 149) D) in
    record {
      r = (q + 1) / 2 * 2 ^ k;
      is =
          subst (Is binary32 (of_bits binary32 (root_bits b)) false)
          (made_units k ((q + 1) / 2) (digits_large g m z.full z.held) (le_of_lt (digits_small g m z.full z.held)))
          (bits_is (root_bits b) (omega (arith, root_bits_lt b p s)));
      up_by = λ j h. digits_up A q k (D * 2 ^ 149) j w large e h;
      lo_by = λ j h. digits_lo A q k (D * 2 ^ 149) j w large e h;
    }

-- ---- and of every f32

zero_of : (D d : ℕ) → 0 ≡ D * d → 0 < d → D ≡ 0
zero_of D d e p = go (eq-zero-or-pos D)
  where
    go : (D ≡ 0) ⊎ (0 < D) → D ≡ 0
    go (inl z) = z
    go (inr q) = absurd (lt_irrefl 0 (subst (λ (x : ℕ). 0 < x) (sym e) (mul-pos q p)))

zero_left : (u l : ℕ) → zero * u * l ≡ 0
zero_left u l = omega arith

zero_at : (D : ℕ) (y : Float) → Is binary32 y false D → D ≡ 0 → RootAt D y
zero_at D y h z = record {
  r = D;
  is = h;
  up_by = λ j k. le_trans (le_of_eq z) zero-le;
  lo_by = λ j k. absurd (not-le_of_lt (mul-pos (pow_pos j) (pow_pos j)) (le_trans k (le_of_eq (ap (λ (x : ℕ). x * 2 ^ 149) z ∙ zero-mul (2 ^ 149)))));
}

positive_at : (x : Float) (D : ℕ) → Positive x → T (fits binary32 x) → Is binary32 x false D → RootAt D (root_of x)
positive_at x D p f h =
    let b = to_bits binary32 x in
    let z = positive_in x p f in
    let back = of_bits-to_bits binary32 x f in
    subst (RootAt D) (positive_root x p)
    (bits_root b D z.0 z.1 (sym (units_bits b z.1) ∙ ap units_of back ∙ units_of_lem x false D h))

pub root_value : (x : Float) (D : ℕ) → T (fits binary32 x) → Is binary32 x false D → RootAt D (root_of x)
root_value nan D f h = absurd h
root_value (inf s) D f h = absurd h
root_value (fin true m e) D f h = absurd (true≢false h.0)
root_value (fin false zero e) D f h = unfold root_of in zero_at D (fin false zero e) h (zero_of D (down e) (sym (zero_left (up e) (2 ^ 149)) ∙ h.1) (down_pos e))
root_value (fin false (suc m) e) D f h = positive_at (fin false (suc m) e) D (record { lead = m; exp = e; is = refl }) f h

pub root_finite : (x : Float) → T (finite (root_of x)) → T (finite x)
unfolding root_of
root_finite nan t = absurd t
root_finite (inf true) t = absurd t
root_finite (inf false) t = absurd t
root_finite (fin s m e) t = tt
