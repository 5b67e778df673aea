-- Arithmetic of the code. Assumes nothing.
use mathlib.Core.Path.{◌≡◌, sym, ap, ◌∙◌}
use mathlib.Core.Logic.{inl, inr}
use Prim.Native.Nat.{ℕ, ◌+◌, ◌-◌, ◌*◌, ◌/◌, ◌^◌, ◌≤◌, ◌<◌, zero-le}
use native.Mathlib.Nat.{add-zero, sub-zero, mul-zero, mul-one, le_refl, le_trans, mul-le-mul, lt_of_le_of_lt, mul_assoc, mul-div-mul_right, div-eq_of_lt}
use native.Mathlib.Omega.{arith}
use lib.Dec.{lit<}
use lib.Pow.{pow-add, pow_mono}
use Rattle.series.specs.Series.{half_turn}
use Rattle.series.specs.Value.{blend, fine}
use Rattle.math.specs.Digit.{Bit}

-- m * 2^i is q times half_turn and r more
pub record Div (m n i q r : ℕ) : Type 0 where
  pub is : q * half_turn + r ≡ m * 2 ^ i
  pub rest : r < half_turn
  pub within : i ≤ n
  pub small : q < 2 ^ 46

-- below 2^61 there is no half turn
below : (m : ℕ) → m < 16777216 → m * 137438953472 < half_turn
below m h = omega arith

pub div_none : (m n : ℕ) → m < 16777216 → n < 37 → 0 ≡ m * 2 ^ n / half_turn
div_none m n h k = sym (div-eq_of_lt (lt_of_le_of_lt (mul-le-mul (le_refl m) (pow_mono {i = n} {j = 37} (lt_le n k))) (below m h)))
  where
    lt_le : (n : ℕ) → n < 37 → n ≤ 37
    lt_le n h = omega arith

pub div_start : (m n : ℕ) → m < 16777216 → 37 ≤ n → Div m n 37 0 (m * 137438953472)
div_start m n h k = record { is = one m; rest = below m h; within = k; small = lit< tt }
  where
    one : (m : ℕ) → 0 * half_turn + m * 137438953472 ≡ m * 2 ^ 37
    one m = omega arith

double : (m i q r : ℕ) → q * half_turn + r ≡ m * 2 ^ i → (q + q) * half_turn + (r + r) ≡ m * 2 ^ (i + 1)
double m i q r e = go (2 ^ i) e ∙ sym (ap (λ (x : ℕ). m * x) (pow-add 2 i 1))
  where
    go : (p : ℕ) → q * half_turn + r ≡ m * p → (q + q) * half_turn + (r + r) ≡ m * (p * 2)
    go p e = omega arith

few : (m n i q r : ℕ) → m < 16777216 → n ≤ 82 → i ≤ n → q * half_turn + r ≡ m * 2 ^ i → q < 2 ^ 46
few m n i q r h k l e = go q r (m * 2 ^ i) e (mul-le-mul (lt_le m h) (pow_mono {i = i} {j = 82} (le_trans l k)))
  where
    lt_le : (m : ℕ) → m < 16777216 → m ≤ 16777216
    lt_le m h = omega arith

    go : (q r x : ℕ) → q * half_turn + r ≡ x → x ≤ 16777216 * 2 ^ 82 → q < 2 ^ 46
    go q r x e h = omega arith

step_in : (i n : ℕ) → i < n → i + 1 ≤ n
step_in i n h = omega arith

div_low : (m n i q r : ℕ) → m < 16777216 → n ≤ 82 → Div m n i q r → i < n → r + r < half_turn → Div m n (i + 1) (q + q) (r + r)
div_low m n i q r h k d l s = let e = double m i q r d.is in record { is = e; rest = s; within = step_in i n l; small = few m n (i + 1) (q + q) (r + r) h k (step_in i n l) e }

div_high : (m n i q r : ℕ) → m < 16777216 → n ≤ 82 → Div m n i q r → i < n → half_turn ≤ r + r → Div m n (i + 1) (q + q + 1) (r + r - half_turn)
div_high m n i q r h k d l s =
    let e = carry (m * 2 ^ (i + 1)) s (double m i q r d.is) in
    record { is = e; rest = under d.rest; within = step_in i n l; small = few m n (i + 1) (q + q + 1) (r + r - half_turn) h k (step_in i n l) e }
  where
    carry : (x : ℕ) → half_turn ≤ r + r → (q + q) * half_turn + (r + r) ≡ x → (q + q + 1) * half_turn + (r + r - half_turn) ≡ x
    carry x s e = omega arith

    under : r < half_turn → r + r - half_turn < half_turn
    under h = omega arith

-- one digit more
pub div_next : (m n i q r b : ℕ) → m < 16777216 → n ≤ 82 → Div m n i q r → i < n → Bit (r + r) half_turn b → Div m n (i + 1) (q + q + b) (r + r - half_turn * b)
div_next m n i q r b h k d l (inl s) = rw (s.1, add-zero, mul-zero half_turn, sub-zero) (div_low m n i q r h k d l s.0)
div_next m n i q r b h k d l (inr s) = rw s.1 (div_high m n i q r h k d l s.0)

pub digit_fits : (r b : ℕ) → r < half_turn → Bit (r + r) half_turn b → half_turn * b ≤ r + r
digit_fits r b h (inl s) = rw s.1 (zero-le)
digit_fits r b h (inr s) = rw (s.1, mul-one half_turn) s.0

pub digit_low : (r b : ℕ) → Bit r half_turn b → b ≤ 1
digit_low r b (inl s) = omega (arith, s.1)
digit_low r b (inr s) = omega (arith, s.1)

pub div_end : (m n i q r : ℕ) → Div m n i q r → n ≤ i → q ≡ m * 2 ^ n / half_turn
div_end m n i q r d h = go q r (m * 2 ^ i) d.is d.rest ∙ ap (λ (x : ℕ). m * 2 ^ x / half_turn) (same i n d.within h)
  where
    go : (q r x : ℕ) → q * half_turn + r ≡ x → r < half_turn → q ≡ x / half_turn
    go q r x e h = omega arith

    same : (i n : ℕ) → i ≤ n → n ≤ i → i ≡ n
    same i n h k = omega arith

-- ---- parts
pub parts_none : (m e : ℕ) → m < 16777216 → e < 54 → 0 ≡ m * 2 ^ e / fine
parts_none m e h k = sym (div-eq_of_lt (lt_of_le_of_lt (mul-le-mul (lt_le m h) (pow_mono {i = e} {j = 54} (lt_le54 e k))) (lit< {m = 16777216 * 2 ^ 54} {n = fine} tt)))
  where
    lt_le : (m : ℕ) → m < 16777216 → m ≤ 16777216
    lt_le m h = omega arith

    lt_le54 : (e : ℕ) → e < 54 → e ≤ 54
    lt_le54 e h = omega arith

pub parts_some : (m e : ℕ) → 54 ≤ e → m * 2 ^ (e - 54) / half_turn ≡ m * 2 ^ e / fine
parts_some m e h =
    sym (mul-div-mul_right (m * 2 ^ (e - 54)) half_turn (lit< {m = 0} {n = 2 ^ 54} tt))
    ∙ ap (λ (x : ℕ). x / fine) (mul_assoc m (2 ^ (e - 54)) (2 ^ 54) ∙ ap (λ (x : ℕ). m * x) (sym (pow-add 2 (e - 54) 54) ∙ ap (λ (x : ℕ). 2 ^ x) (back e h)))
  where
    back : (e : ℕ) → 54 ≤ e → e - 54 + 54 ≡ e
    back e h = omega arith

-- ---- blended
pub left_le : (a w : ℕ) → a ≤ 1073741824 → (16777216 - w) * a ≤ 18014398509481984
left_le a w h = mul-le-mul (under w) h
  where
    under : (w : ℕ) → 16777216 - w ≤ 16777216
    under w = omega arith

pub right_le : (b w : ℕ) → b ≤ 1073741824 → w ≤ 16777216 → w * b ≤ 18014398509481984
right_le b w h k = mul-le-mul k h

pub blend_le : (a b w : ℕ) → a ≤ 1073741824 → b ≤ 1073741824 → w ≤ 16777216 → blend a b w ≤ 16777216
blend_le a b w h k l = go ((16777216 - w) * a) (w * b) (mul-le-mul (le_refl (16777216 - w)) h) (mul-le-mul (le_refl w) k)
  where
    go : (x y : ℕ) → x ≤ (16777216 - w) * 1073741824 → y ≤ w * 1073741824 → (x + y) / 1073741824 ≤ 16777216
    go x y p q = omega arith
