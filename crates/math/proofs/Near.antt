-- `root_of` is the nearest f32 to the exact root.
use mathlib.Core.Path.{◌≡◌, sym, ap, ap₂, ◌∙◌, subst, subst₂}
use mathlib.Core.Logic.{◌⊎◌, inl, inr}
use mathlib.Core.Bool.{Bool, not}
use Prim.Native.Nat.{ℕ, zero, suc, ◌+◌, ◌-◌, ◌*◌, ◌/◌, ◌%◌, ◌^◌, ◌≤◌, ◌<◌}
use native.Mathlib.Nat.{lt_irrefl, lt_trans, le_refl, le_of_eq, le-add_right, add-zero, add-sub_of_le, le_trans, lt_of_lt_of_le, eq-or-lt_of_le, mul_assoc, mul-mul-mul_comm, mul-le-mul_right, mul-lt-mul_of_pos_right, mul-pos, add-mul, pow-succ', mod-eq_of_lt, div-eq_of_lt}
use native.Mathlib.Omega.{arith}
use lib.Dec.{T}
use lib.Pow.{pow_pos}
use lib.Ieee.{Float, binary32, of_bits, to_bits, fits}
use lib.Ieee.Positive.{positive}
use lib.Ieee.Bits.{of_bits-to_bits, to_bits-of_bits, nan_bits_is}
use Rattle.lists.proofs.Numbers.{le_or_lt}
use Rattle.lists.proofs.Squares.{square_next, square_double, square_mono, parity, square_strict}
use Rattle.math.specs.SquareRoot.{isqrt, place, significand, root_digits, joined, root_bits, root_of}
use Rattle.math.specs.Nearest.{units_of, next, previous, square, Nearest, Rooted}
use Rattle.math.proofs.Pattern.{by_fields, by_bits, units_bits, made_units, argument, scaled}
use Rattle.math.proofs.RootDigits.{shift_even, shift_odd, shifted_root, digits_large, digits_small, root_large}
use Rattle.math.proofs.Place.{placed, root_bits_lt}
use Rattle.math.proofs.Sorts.{Positive, positive_is, positive_in, positive_root, plain_pattern}

-- ---- the root of the shifted significand, rounded

-- a root that is odd is not exact, since the number is even
odd_not_exact : (a q j h : ℕ) → q ≡ 2 * j + 1 → a ≡ 2 * h → q * q ≤ a → q * q < a
odd_not_exact a q j h e f l =
    let s : q * q ≡ 4 * (j * j) + 2 * (2 * j) + 1 = ap square e ∙ square_next (2 * j) ∙ ap (λ (x : ℕ). x + 2 * (2 * j) + 1) (square_double j) in
    omega arith

shifted_even : (g m : ℕ) → (h : ℕ) × (m * 2 ^ (25 + g % 2) ≡ 2 * h)
shifted_even g m = elim (parity g) [ inl e ↦ (m * 16777216, omega (arith, shift_even g m e)) | inr e ↦ (m * 33554432, omega (arith, shift_odd g m e)) ]

-- ---- the neighbours of the result

next_units : (k h : ℕ) → 2 ^ 23 ≤ h → h < 2 ^ 24 → by_bits (k * 2 ^ 23 + h + 1) ≡ (h + 1) * 2 ^ k
next_units k h l u = ap by_bits (regroup (k * 2 ^ 23) h) ∙ made_units k (h + 1) (omega arith) (omega arith)
  where
    regroup : (a b : ℕ) → a + b + 1 ≡ a + (b + 1)
    regroup a b = omega arith

previous_same : (k h : ℕ) → 2 ^ 23 < h → h ≤ 2 ^ 24 → by_bits (k * 2 ^ 23 + h - 1) ≡ (h - 1) * 2 ^ k
previous_same k h l u = ap by_bits (regroup (k * 2 ^ 23) l) ∙ made_units k (h - 1) (omega arith) (omega arith)
  where
    regroup : (a : ℕ) → 2 ^ 23 < h → a + h - 1 ≡ a + (h - 1)
    regroup a p = omega arith

previous_less : (k h : ℕ) → 2 ^ 23 ≤ h → h ≤ 2 ^ 24 → by_bits (suc k * 2 ^ 23 + h - 1) < h * 2 ^ suc k
previous_less k h l u = go (eq-or-lt_of_le l)
  where
    less : 0 < h → h - 1 < h
    less p = omega arith

    go : (2 ^ 23 ≡ h) ⊎ (2 ^ 23 < h) → by_bits (suc k * 2 ^ 23 + h - 1) < h * 2 ^ suc k
    go (inl e) =
        let d : suc k * 2 ^ 23 + h - 1 ≡ k * 2 ^ 23 + 16777215 = omega arith in
        let w : h * 2 ^ suc k ≡ 2 ^ 24 * 2 ^ k = ap₂ (λ (x y : ℕ). x * y) (sym e) (pow-succ' 2 k) ∙ sym (mul_assoc (2 ^ 23) 2 (2 ^ k)) in
        subst (λ (x : ℕ). x < h * 2 ^ suc k) (sym (ap by_bits d ∙ made_units k 16777215 (omega arith) (omega arith)))
        (subst (λ (x : ℕ). 16777215 * 2 ^ k < x) (sym w) (mul-lt-mul_of_pos_right (le_refl (2 ^ 24)) (pow_pos k)))
    go (inr p) =
        subst (λ (x : ℕ). x < h * 2 ^ suc k) (sym (previous_same (suc k) h p u)) (mul-lt-mul_of_pos_right (less (omega arith)) (pow_pos (suc k)))

-- (a * p)² is a² * p²
scale_square : (a p : ℕ) → square (a * p) ≡ square a * square p
scale_square a p = mul-mul-mul_comm a p a p

module _ (g m : ℕ) (large : 2 ^ 23 ≤ m) (small : m < 2 ^ 24) where
  abbrev shifted : ℕ
  shifted = m * 2 ^ (25 + g % 2)

  abbrev at : ℕ
  at = g / 2 + 51

  below_half : shifted < square (2 * root_digits g m + 1)
  unfolding root_digits
  below_half =
      let r = shifted_root g m large small in
      lt_of_lt_of_le r.high (square_mono (omega arith))

  -- either the root is even, and the result's own, or it is odd, and just above the lower halfway point
  abbrev Above : Type 0
  Above = (square (2 * root_digits g m) ≤ shifted) ⊎ ((2 ^ 23 < root_digits g m) × (square (2 * root_digits g m - 1) < shifted))

  above_half : Above
  unfolding root_digits
  above_half = go (parity (isqrt 25 shifted))
    where
      go : (isqrt 25 shifted % 2 ≡ 0) ⊎ (isqrt 25 shifted % 2 ≡ 1) → (square (2 * ((isqrt 25 shifted + 1) / 2)) ≤ shifted) ⊎ ((2 ^ 23 < (isqrt 25 shifted + 1) / 2) × (square (2 * ((isqrt 25 shifted + 1) / 2) - 1) < shifted))
      go (inl e) =
          let r = shifted_root g m large small in
          let d : isqrt 25 shifted ≡ 2 * ((isqrt 25 shifted + 1) / 2) = omega arith in
          inl (subst (λ (x : ℕ). square x ≤ shifted) d r.low)
      go (inr e) =
          let r = shifted_root g m large small in
          let z = shifted_even g m in
          let d : isqrt 25 shifted ≡ 2 * ((isqrt 25 shifted + 1) / 2) - 1 = omega arith in
          inr (
            omega (arith, root_large g m large small),
            subst (λ (x : ℕ). square x < shifted) d
                (odd_not_exact shifted (isqrt 25 shifted) (isqrt 25 shifted / 2) z.0 (omega arith) z.1 r.low),
          )

  -- the same of the patterns, at the result's place
  high_side : shifted * square (2 ^ at) < square (by_bits (joined g m) + by_bits (joined g m + 1))
  unfolding joined
  high_side =
      let h = root_digits g m in
      let l = digits_large g m large small in
      let u = digits_small g m large small in
      let e : by_bits (at * 2 ^ 23 + h) + by_bits (at * 2 ^ 23 + h + 1) ≡ (2 * h + 1) * 2 ^ at =
      ap₂ (λ (x y : ℕ). x + y) (made_units at h l (omega arith)) (next_units at h l u)
      ∙ sym (add-mul h (h + 1) (2 ^ at))
      ∙ ap (λ (x : ℕ). x * 2 ^ at) (twice h) in
      subst (λ (x : ℕ). shifted * square (2 ^ at) < square x) (sym e)
      (subst (λ (x : ℕ). shifted * square (2 ^ at) < x) (sym (scale_square (2 * h + 1) (2 ^ at)))
      (mul-lt-mul_of_pos_right below_half (mul-pos (pow_pos at) (pow_pos at))))
    where
      twice : (h : ℕ) → h + (h + 1) ≡ 2 * h + 1
      twice h = omega arith

  low_side : square (by_bits (joined g m - 1) + by_bits (joined g m)) < shifted * square (2 ^ at)
  unfolding joined
  low_side = go above_half
    where
      h : ℕ
      h = root_digits g m

      sucs : (g / 2 + 51) ≡ suc (g / 2 + 50)
      sucs = omega arith

      less : by_bits (at * 2 ^ 23 + h - 1) < h * 2 ^ at
      less =
          subst (λ (k : ℕ). by_bits (k * 2 ^ 23 + h - 1) < h * 2 ^ k) (sym sucs)
          (previous_less (g / 2 + 50) h (digits_large g m large small) (omega (arith, digits_small g m large small)))

      own : by_bits (at * 2 ^ 23 + h) ≡ h * 2 ^ at
      own = made_units at h (digits_large g m large small) (omega (arith, digits_small g m large small))

      double : h * 2 ^ at + h * 2 ^ at ≡ 2 * h * 2 ^ at
      double = omega (arith, mul_assoc 2 h (2 ^ at))

      one_less : 2 ^ 23 < h → h - 1 + h ≡ 2 * h - 1
      one_less p = omega arith

      go : Above → square (by_bits (at * 2 ^ 23 + h - 1) + by_bits (at * 2 ^ 23 + h)) < shifted * square (2 ^ at)
      go (inl e) =
          lt_of_lt_of_le
          (square_strict {a = by_bits (at * 2 ^ 23 + h - 1) + by_bits (at * 2 ^ 23 + h)} {b = 2 * h * 2 ^ at} (omega (arith, less, own, double)))
          (subst (λ (x : ℕ). x ≤ shifted * square (2 ^ at)) (sym (scale_square (2 * h) (2 ^ at))) (mul-le-mul_right (square (2 ^ at)) e))
      go (inr e) =
          let w : by_bits (at * 2 ^ 23 + h - 1) + by_bits (at * 2 ^ 23 + h) ≡ (2 * h - 1) * 2 ^ at =
          ap₂ (λ (x y : ℕ). x + y) (previous_same at h e.0 (omega (arith, digits_small g m large small))) own
          ∙ sym (add-mul (h - 1) h (2 ^ at))
          ∙ ap (λ (x : ℕ). x * 2 ^ at) (one_less e.0) in
          subst (λ (x : ℕ). square x < shifted * square (2 ^ at)) (sym w)
          (subst (λ (x : ℕ). x < shifted * square (2 ^ at)) (sym (scale_square (2 * h - 1) (2 ^ at)))
          (mul-lt-mul_of_pos_right e.1 (mul-pos (pow_pos at) (pow_pos at))))

-- ---- the law

-- the bits of a result
bits_back : (n : ℕ) → n < 255 * 2 ^ 23 → to_bits binary32 (of_bits binary32 n) ≡ n
bits_back n h = to_bits-of_bits binary32 n (omega arith) (subst (λ (b : Bool). T (not b)) (nan_bits_is binary32 n) (plain_pattern n (omega arith)))

near_bits : (b : ℕ) → 0 < b → b < 255 * 2 ^ 23 → Nearest (of_bits binary32 b) (of_bits binary32 (root_bits b))
unfolding next previous root_bits
near_bits b p h =
    let r = root_bits b in
    let z = placed b p h in
    let s = root_bits_lt b p h in
    let back = bits_back r (omega arith) in
    let own : units_of (of_bits binary32 r) ≡ by_bits r = units_bits r (omega arith) in
    let after : units_of (of_bits binary32 (to_bits binary32 (of_bits binary32 r) + 1)) ≡ by_bits (r + 1) =
    ap (λ (k : ℕ). units_of (of_bits binary32 (k + 1))) back ∙ units_bits (r + 1) (omega arith) in
    let before : units_of (of_bits binary32 (to_bits binary32 (of_bits binary32 r) - 1)) ≡ by_bits (r - 1) =
    ap (λ (k : ℕ). units_of (of_bits binary32 (k - 1))) back ∙ units_bits (r - 1) (omega arith) in
    let x : significand b * 2 ^ (25 + place b % 2) * square (2 ^ (place b / 2 + 51)) ≡ 4 * 2 ^ 149 * units_of (of_bits binary32 b) =
    scaled (by_bits b) (significand b) (place b) (argument b p) ∙ ap (λ (k : ℕ). 4 * 2 ^ 149 * k) (sym (units_bits b h)) in
    record {
      low = subst₂ (λ (u v : ℕ). square u < v) (sym (ap₂ (λ (u v : ℕ). u + v) before own)) x (low_side (place b) (significand b) z.full z.held);
      high = subst₂ (λ (u v : ℕ). u < square v) x (sym (ap₂ (λ (u v : ℕ). u + v) own after)) (high_side (place b) (significand b) z.full z.held);
    }

-- For every positive finite f32 the argument lies between the squares of the two halfway points beside its root.
pub root_nearest : (x : Float) → T (positive x) → T (fits binary32 x) → Nearest x (root_of x)
root_nearest x t f =
    let p = positive_is x t in
    let z = positive_in x p f in
    subst₂ (λ (u v : Float). Nearest u v) (of_bits-to_bits binary32 x f) (positive_root x p) (near_bits (to_bits binary32 x) z.0 z.1)

-- what `root` promises, of the value that it computes
pub rooted : (x r : Float) → T (fits binary32 x) → r ≡ root_of x → Rooted x r
rooted x r f e = record { is = e; near = λ p. subst (Nearest x) (sym e) (root_nearest x p f) }

-- ---- the law says which f32 it is: no two are the nearest

small_units : (b : ℕ) → b ≤ 2 ^ 23 → by_bits b ≡ b
small_units b h = go (eq-or-lt_of_le h)
  where
    go : (b ≡ 2 ^ 23) ⊎ (b < 2 ^ 23) → by_bits b ≡ b
    go (inl e) = ap by_bits e ∙ sym e
    go (inr l) = ap (λ (f : ℕ). by_fields f (b % 2 ^ 23)) (div-eq_of_lt l) ∙ mod-eq_of_lt l

one_up : (b : ℕ) → by_bits b ≤ by_bits (b + 1)
one_up b = go (le_or_lt (2 ^ 23) b)
  where
    go : (2 ^ 23 ≤ b) ⊎ (b < 2 ^ 23) → by_bits b ≤ by_bits (b + 1)
    go (inl l) =
        let k = b / 2 ^ 23 - 1 in
        let h = b % 2 ^ 23 + 2 ^ 23 in
        let e : b ≡ k * 2 ^ 23 + h = omega arith in
        subst₂ (λ (u v : ℕ). u ≤ v)
        (sym (ap by_bits e ∙ made_units k h (omega arith) (omega arith)))
        (sym (ap (λ (x : ℕ). by_bits (x + 1)) e ∙ next_units k h (omega arith) (omega arith)))
        (mul-le-mul_right (2 ^ k) (le-add_right h 1))
    go (inr l) = subst₂ (λ (u v : ℕ). u ≤ v) (sym (small_units b (omega arith))) (sym (small_units (b + 1) (omega arith))) (le-add_right b 1)

units_mono : (b d : ℕ) → by_bits b ≤ by_bits (b + d)
units_mono b zero = le_of_eq (ap by_bits (sym (add-zero b)))
units_mono b (suc d) = le_trans (units_mono b d) (subst (λ (x : ℕ). by_bits (b + d) ≤ by_bits x) (step b d) (one_up (b + d)))
  where
    step : (b d : ℕ) → b + d + 1 ≡ b + suc d
    step b d = omega arith

units_order : (b c : ℕ) → b ≤ c → by_bits b ≤ by_bits c
units_order b c h = subst (λ (x : ℕ). by_bits b ≤ by_bits x) (add-sub_of_le h) (units_mono b (c - b))

not_both : (x r r' : Float) → T (fits binary32 r) → Positive r' → T (fits binary32 r') → Nearest x r → Nearest x r' → to_bits binary32 r < to_bits binary32 r' → ⊥
unfolding next previous
not_both x r r' f p' f' n n' l =
    let b = to_bits binary32 r in
    let b' = to_bits binary32 r' in
    let z' = positive_in r' p' f' in
    let own : units_of r ≡ by_bits b = ap units_of (sym (of_bits-to_bits binary32 r f)) ∙ units_bits b (omega arith) in
    let own' : units_of r' ≡ by_bits b' = ap units_of (sym (of_bits-to_bits binary32 r' f')) ∙ units_bits b' (omega arith) in
    let after : units_of (of_bits binary32 (b + 1)) ≡ by_bits (b + 1) = units_bits (b + 1) (omega arith) in
    let before : units_of (of_bits binary32 (b' - 1)) ≡ by_bits (b' - 1) = units_bits (b' - 1) (omega arith) in
    let s : by_bits b ≤ by_bits (b' - 1) = units_order b (b' - 1) (omega arith) in
    let t : by_bits (b + 1) ≤ by_bits b' = units_order (b + 1) b' (omega arith) in
    let m = square_mono {a = units_of r + units_of (of_bits binary32 (b + 1))} {b = units_of (of_bits binary32 (b' - 1)) + units_of r'} (omega arith) in
    lt_irrefl (4 * 2 ^ 149 * units_of x) (lt_trans (lt_of_lt_of_le n.high m) n'.low)

-- FORMAT 9.2: no two positive f32 are the nearest
pub nearest_unique : (x r r' : Float) → T (positive r) → T (fits binary32 r) → T (positive r') → T (fits binary32 r') → Nearest x r → Nearest x r' → r ≡ r'
nearest_unique x r r' p f p' f' n n' =
    sym (of_bits-to_bits binary32 r f) ∙ ap (of_bits binary32) (go (le_or_lt b b') (le_or_lt b' b)) ∙ of_bits-to_bits binary32 r' f'
  where
    b : ℕ
    b = to_bits binary32 r

    b' : ℕ
    b' = to_bits binary32 r'

    go : (b ≤ b') ⊎ (b' < b) → (b' ≤ b) ⊎ (b < b') → b ≡ b'
    go (inl h) (inl k) = omega arith
    go (inl h) (inr k) = absurd (not_both x r r' f (positive_is r' p') f' n n' k)
    go (inr h) k = absurd (not_both x r' r f' (positive_is r p) f n' n h)
