-- The place and the significand of a positive f32, and how a loop that doubles finds them for a subnormal one.
use mathlib.Core.Path.{◌≡◌, refl, sym, ap, ap₂, ◌∙◌, subst}
use mathlib.Core.Logic.{inl, inr}
use mathlib.Core.Bool.{Bool, cond}
use Prim.Native.Nat.{ℕ, suc, ◌+◌, ◌-◌, ◌*◌, ◌/◌, ◌%◌, ◌^◌, ◌≤◌, ◌<◌}
use native.Mathlib.Nat.{le_refl, mul-le-mul_right, le_antisymm, lt_of_not-le, not-le_of_lt, le_of_suc-le-suc, lt_of_lt_of_le, eq-zero-or-pos, lt_of_mul-lt-mul_right, mul-lt-mul_of_pos_right, mul_assoc, pow-suc}
use native.Mathlib.Omega.{arith}
use borrow.Author.Tests.{lt-ltb, le-ltb}
use lib.Pow.{pow-add, pow_pos, pow_mono}
use lib.Ieee.{size}
use lib.Ieee.Digits.{size-lt, size-le, size_reaches}
use Rattle.lists.proofs.Numbers.{le_or_lt}
use Rattle.lists.proofs.Squares.{size_pos}
use Rattle.math.specs.SquareRoot.{place, significand, joined, root_bits}
use Rattle.math.proofs.RootDigits.{digits_small}

-- n, doubled until it is m, is at the place g; its own digits are no more than g
pub record Lifted (n m g : ℕ) : Type 0 where
  pub some : 0 < n
  pub within : g ≤ 24
  pub digits : size n ≤ g
  pub is : m ≡ n * 2 ^ (24 - g)

under : (n j k : ℕ) → j + k ≡ 23 → n * 2 ^ k < 2 ^ 23 → n < 2 ^ j
under n j k e h = lt_of_mul-lt-mul_right (2 ^ k) (subst (λ (x : ℕ). n * 2 ^ k < x) (ap (λ (t : ℕ). 2 ^ t) (sym e) ∙ pow-add 2 j k) h)

pub lifted_small : (n m g : ℕ) → Lifted n m g → m < 2 ^ 24
lifted_small n m g l =
    subst (λ (x : ℕ). x < 2 ^ 24) (sym l.is)
    (subst (λ (x : ℕ). n * 2 ^ (24 - g) < x) (sym (pow-add 2 g (24 - g)) ∙ ap (λ (t : ℕ). 2 ^ t) (whole l.within))
    (mul-lt-mul_of_pos_right (lt_of_lt_of_le (size-lt n) (pow_mono l.digits)) (pow_pos (24 - g))))
  where
    whole : g ≤ 24 → g + (24 - g) ≡ 24
    whole h = omega arith

pub lifted_pos : (n m g : ℕ) → Lifted n m g → m < 2 ^ 23 → 0 < g
lifted_pos n m g l h = elim (eq-zero-or-pos g) [ inl z ↦ absurd (zero_no z) | inr p ↦ p ]
  where
    zero_no : g ≡ 0 → ⊥
    zero_no z = omega (arith, l.is ∙ ap (λ (t : ℕ). n * 2 ^ (24 - t)) z, l.some)

pub lifted_start : (n : ℕ) → 0 < n → n < 2 ^ 23 → Lifted n n 24
lifted_start n p h = record { some = p; within = omega arith; digits = size-le n 24 (omega arith); is = omega arith }

pub lifted_step : (n m g : ℕ) → Lifted n m g → m < 2 ^ 23 → Lifted n (m * 2) (g - 1)
lifted_step n m g l h =
    let p = lifted_pos n m g l h in
    let e : 24 - (g - 1) ≡ suc (24 - g) = omega (arith, l.within) in
    record {
      some = l.some;
      within = omega (arith, l.within);
      digits = size-le n (g - 1) (under n (g - 1) (24 - g) (omega (arith, l.within)) (subst (λ (x : ℕ). x < 2 ^ 23) l.is h));
      is = ap (λ (x : ℕ). x * 2) l.is ∙ mul_assoc n (2 ^ (24 - g)) 2 ∙ ap (λ (x : ℕ). n * x) (sym (pow-suc 2 (24 - g)) ∙ ap (λ (t : ℕ). 2 ^ t) (sym e));
    }

pub lifted_end : (n m g : ℕ) → Lifted n m g → 2 ^ 23 ≤ m → size n ≡ g
lifted_end n m g l h =
    le_antisymm l.digits (le_of_suc-le-suc (lt_of_not-le (λ (f : suc (size n) ≤ g). not-le_of_lt (less f) h)))
  where
    j : ℕ
    j = g - 1

    less : size n < g → m < 2 ^ 23
    less f =
        subst (λ (x : ℕ). x < 2 ^ 23) (sym l.is)
        (subst (λ (x : ℕ). n * 2 ^ (24 - g) < x) (sym (pow-add 2 (g - 1) (24 - g)) ∙ ap (λ (t : ℕ). 2 ^ t) (full l.within f))
        (mul-lt-mul_of_pos_right (lt_of_lt_of_le (size-lt n) (pow_mono (room f))) (pow_pos (24 - g))))
      where
        full : g ≤ 24 → size n < g → g - 1 + (24 - g) ≡ 23
        full a b = omega arith

        room : size n < g → size n ≤ g - 1
        room b = omega arith

-- ---- the place and the significand, of a subnormal and of a normal f32

pub place_low : (b : ℕ) → b < 2 ^ 23 → place b ≡ size b
unfolding place
place_low b h = ap (λ (t : Bool). cond t (size b) (b / 2 ^ 23 + 23)) (lt-ltb b (2 ^ 23) h)

pub place_high : (b : ℕ) → 2 ^ 23 ≤ b → place b ≡ b / 2 ^ 23 + 23
unfolding place
place_high b h = ap (λ (t : Bool). cond t (size b) (b / 2 ^ 23 + 23)) (le-ltb b (2 ^ 23) h)

pub significand_low : (b : ℕ) → b < 2 ^ 23 → significand b ≡ b * 2 ^ (24 - size b)
unfolding significand
significand_low b h = ap (λ (t : Bool). cond t (b * 2 ^ (24 - size b)) (b % 2 ^ 23 + 2 ^ 23)) (lt-ltb b (2 ^ 23) h)

pub significand_high : (b : ℕ) → 2 ^ 23 ≤ b → significand b ≡ b % 2 ^ 23 + 2 ^ 23
unfolding significand
significand_high b h = ap (λ (t : Bool). cond t (b * 2 ^ (24 - size b)) (b % 2 ^ 23 + 2 ^ 23)) (le-ltb b (2 ^ 23) h)

-- what `root_bits` is for a subnormal and for a normal f32
pub bits_low : (b m g : ℕ) → b < 2 ^ 23 → Lifted b m g → 2 ^ 23 ≤ m → joined g m ≡ root_bits b
unfolding root_bits
bits_low b m g s l h =
    let e = lifted_end b m g l h in
    ap₂ joined (sym e ∙ sym (place_low b s)) (l.is ∙ ap (λ (x : ℕ). b * 2 ^ (24 - x)) (sym e) ∙ sym (significand_low b s))

pub bits_high : (b : ℕ) → 2 ^ 23 ≤ b → joined (b / 2 ^ 23 + 23) (b % 2 ^ 23 + 2 ^ 23) ≡ root_bits b
unfolding root_bits
bits_high b h = ap₂ joined (sym (place_high b h)) (sym (significand_high b h))

-- ---- and their bounds

pub record Placed (b : ℕ) : Type 0 where
  pub near : place b ≤ 277
  pub full : 2 ^ 23 ≤ significand b
  pub held : significand b < 2 ^ 24

pub placed : (b : ℕ) → 0 < b → b < 255 * 2 ^ 23 → Placed b
placed b p h = elim (le_or_lt (2 ^ 23) b) [ inl l ↦ high l | inr l ↦ low l ]
  where
    high : 2 ^ 23 ≤ b → Placed b
    high l = record { near = omega (arith, place_high b l); full = omega (arith, significand_high b l); held = omega (arith, significand_high b l) }

    low : b < 2 ^ 23 → Placed b
    low l =
        let s = size-le b 23 l in
        let q = size_pos b p in
        let e : size b - 1 + (24 - size b) ≡ 23 = omega arith in
        record {
          near = omega (arith, place_low b l);
          full =
              subst (λ (x : ℕ). 2 ^ 23 ≤ x) (sym (significand_low b l))
              (subst (λ (x : ℕ). x ≤ b * 2 ^ (24 - size b)) (sym (pow-add 2 (size b - 1) (24 - size b)) ∙ ap (λ (t : ℕ). 2 ^ t) e)
              (mul-le-mul_right (2 ^ (24 - size b)) (size_reaches b (size b - 1) (omega arith))));
          held =
              subst (λ (x : ℕ). x < 2 ^ 24) (sym (significand_low b l))
              (lifted_small b (b * 2 ^ (24 - size b)) (size b) (record { some = p; within = omega arith; digits = le_refl (size b); is = refl }));
        }

pub root_bits_lt : (b : ℕ) → 0 < b → b < 255 * 2 ^ 23 → root_bits b < 254 * 2 ^ 23
unfolding root_bits joined
root_bits_lt b p h =
    let z = placed b p h in
    omega (arith, digits_small (place b) (significand b) z.full z.held, z.near)
