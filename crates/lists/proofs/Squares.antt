-- Squares, and powers of two.
use mathlib.Core.Path.{◌≡◌, ap, sym, ◌∙◌, subst}
use Prim.Native.Nat.{ℕ, ◌+◌, ◌*◌, ◌≤◌, ◌<◌, ◌^◌, ◌-◌, suc, ◌%◌}
use native.Mathlib.Nat.{mul-add, add-mul, mul-one, one-mul, add_assoc, mul-mul-mul_comm, mul-le-mul, not-le_of_lt, lt_of_le_of_lt, eq-zero-or-pos, le_trans, le_of_eq, two-pow-succ, eq-or-lt_of_le, mul-le-mul_left, mul-lt-mul_of_pos_right}
use native.Mathlib.Omega.{arith}
use mathlib.Core.Logic.{inl, inr, ◌⊎◌}
use lib.Pow.{pow-add, pow-lt}
use lib.Ieee.Digits.{size-lt, back, size_reaches}
use lib.Ieee.{size}
use Rattle.lists.proofs.Numbers.{le_or_lt}

-- (r + 1)² and (2 r)²
pub square_next : (r : ℕ) → (r + 1) * (r + 1) ≡ r * r + 2 * r + 1
square_next r = let e : (r + 1) * (r + 1) ≡ r * r + r + (r + 1) = simp (mul-add, add-mul, mul-one, one-mul, add_assoc) in omega arith

pub square_double : (r : ℕ) → (2 * r) * (2 * r) ≡ 4 * (r * r)
square_double r = mul-mul-mul_comm 2 r 2 r

-- squares are in the order of the numbers
pub square_mono : {a b : ℕ} → a ≤ b → a * a ≤ b * b
square_mono h = mul-le-mul h h

pub square_less : (a b : ℕ) → a * a < b * b → a < b
square_less a b h = elim (le_or_lt b a) [ inl l ↦ absurd (not-le_of_lt h (square_mono l)) | inr l ↦ l ]

pub square_le : (a b : ℕ) → a * a ≤ b * b → a ≤ b
square_le a b h = omega (arith, square_less a (b + 1) (omega (arith, square_next b)))

pub root_le : (n r s : ℕ) → r * r ≤ n → n < (s + 1) * (s + 1) → r ≤ s
root_le n r s l h = omega (arith, square_less r (s + 1) (lt_of_le_of_lt l h))

pub size_pos : (n : ℕ) → 0 < n → 0 < size n
size_pos n p = elim (eq-zero-or-pos (size n)) [ inl z ↦ absurd (no z) | inr q ↦ q ]
  where
    no : size n ≡ 0 → ⊥
    no z = omega (arith, size-lt n, ap (λ (t : ℕ). 2 ^ t) z, p)

pub pow_split : (j k : ℕ) → k ≤ j → 2 ^ (j - k) * 2 ^ k ≡ 2 ^ j
pow_split j k h = sym (pow-add 2 (j - k) k) ∙ ap (λ (x : ℕ). 2 ^ x) (back j k h)

pub times_up : (a b i k : ℕ) → a ≤ 2 ^ i → b ≤ 2 ^ k → a * b ≤ 2 ^ (i + k)
times_up a b i k h l = le_trans (mul-le-mul h l) (le_of_eq (sym (pow-add 2 i k)))

pub times_lo : (a b i k : ℕ) → 2 ^ i ≤ a → 2 ^ k ≤ b → 2 ^ (i + k) ≤ a * b
times_lo a b i k h l = le_trans (le_of_eq (pow-add 2 i k)) (mul-le-mul h l)

pub double_up : (a b p : ℕ) → a ≤ p → b ≤ p → a + b ≤ p + p
double_up a b p h k = omega arith

pub plus_up : (a b i : ℕ) → a ≤ 2 ^ i → b ≤ 2 ^ i → a + b ≤ 2 ^ suc i
plus_up a b i h k = le_trans (double_up a b (2 ^ i) h k) (le_of_eq (sym (two-pow-succ i)))

pub more_left : (a b i : ℕ) → 2 ^ i ≤ a → 2 ^ i ≤ a + b
more_left a b i h = omega arith

pub more_right : (a b i : ℕ) → 2 ^ i ≤ b → 2 ^ i ≤ a + b
more_right a b i h = omega arith

-- two powers on the wrong sides
pub clash : (i j x : ℕ) → x ≤ 2 ^ i → 2 ^ j ≤ x → i < j → ⊥
clash i j x h k l = not-le_of_lt (pow-lt l) (le_trans k h)

pub suc_pred : (z : ℕ) → 0 < z → suc (z - 1) ≡ z
suc_pred z h = omega arith

pub binade : (a : ℕ) → 0 < a → (i : ℕ) × (2 ^ i ≤ a) × (a < 2 ^ suc i)
binade a A =
    let e = suc_pred (size a) (size_pos a A) in
    (size a - 1, size_reaches a (size a - 1) (omega arith), subst (λ (x : ℕ). a < 2 ^ x) (sym e) (size-lt a))

pub largest : (a b c : ℕ) → ((b ≤ a) × (c ≤ a)) ⊎ (((a ≤ b) × (c ≤ b)) ⊎ ((a ≤ c) × (b ≤ c)))
largest a b c = go (le_or_lt b a) (le_or_lt c a) (le_or_lt c b)
  where
    go : (b ≤ a) ⊎ (a < b) → (c ≤ a) ⊎ (a < c) → (c ≤ b) ⊎ (b < c) → ((b ≤ a) × (c ≤ a)) ⊎ (((a ≤ b) × (c ≤ b)) ⊎ ((a ≤ c) × (b ≤ c)))
    go (inl p) (inl q) r = inl (p, q)
    go (inl p) (inr q) r = inr (inr (omega arith))
    go (inr p) q (inl r) = inr (inl (omega arith))
    go (inr p) q (inr r) = inr (inr (omega arith))

pub parity : (g : ℕ) → (g % 2 ≡ 0) ⊎ (g % 2 ≡ 1)
parity g = elim (eq-or-lt_of_le h) [ inl e ↦ inr e | inr l ↦ inl (omega arith) ]
  where
    h : g % 2 ≤ 1
    h = omega arith

pub even : (g : ℕ) → (g % 2 ≡ 1 → ⊥) → g % 2 ≡ 0
even g h = elim (parity g) [ inl e ↦ e | inr e ↦ absurd (h e) ]

pub square_strict : {a b : ℕ} → a < b → a * a < b * b
square_strict {a} {b} h = lt_of_le_of_lt (mul-le-mul_left a (lt_le h)) (mul-lt-mul_of_pos_right h (pos_of h))
  where
    lt_le : a < b → a ≤ b
    lt_le k = omega arith

    pos_of : a < b → 0 < b
    pos_of k = omega arith
