-- Floats that the code makes and reads, in units of 2^-149. Assumes nothing.
use mathlib.Core.Path.{◌≡◌, refl, sym, ap, ap₂, ◌∙◌, subst}
use mathlib.Core.Logic.{◌⊎◌, inl, inr}
use mathlib.Core.Bool.{Bool, true, false, not, cond, true≢false}
use Prim.Native.Nat.{ℕ, zero, suc, ◌+◌, ◌-◌, ◌*◌, ◌/◌, ◌%◌, ◌^◌, ◌≤◌, ◌<◌, min}
use native.Mathlib.Nat.{mul_assoc, mul_comm, mul_right_comm, mul-one, eq_of_mul-eq-mul_right, mul-pos, eq-or-lt_of_le}
use native.Mathlib.Omega.{arith}
use lib.Dec.{T, leb, eqb, eqb→eq, le→leb, not_T, lit<}
use lib.IntN.{ℤ, pos, negsuc}
use lib.Pow.{pow-add, pow_pos, shl_lt}
use lib.Ieee.{Float, nan, inf, fin, binary32, up, down, odd, round, of_int, of_fields, of_bits, mul, neg, in_float}
use lib.Ieee.Bits.{cond_no}
use lib.Ieee.Exact.{HasValue, odd_sign, round_exact}
use Rattle.sine.specs.SinCos.{mant, expo}

down_pos : (e : ℤ) → 0 < down e
down_pos (pos k) = lit< tt
down_pos (negsuc k) = pow_pos (suc k)

rescale : (x : Float) (s : Bool) (w l num den : ℕ) → 0 < l → num * l ≡ w * den → HasValue x s w l → HasValue x s num den
rescale nan s w l num den p h v = v
rescale (inf t) s w l num den p h v = v
rescale (fin t m e) s w l num den p h v = (
  v.0,
  eq_of_mul-eq-mul_right l p (m * up e * den) (num * down e)
      (mul_right_comm (m * up e) den l
      ∙ ap (λ (x : ℕ). x * den) v.1
      ∙ mul_right_comm w (down e) den
      ∙ ap (λ (x : ℕ). x * down e) (sym h)
      ∙ mul_right_comm num l (down e)),
)

-- t ≤ 2^24 is q * 2^j with q of at most 24 digits
record Short (t : ℕ) : Type 0 where
  q : ℕ
  j : ℕ
  is : q * 2 ^ j ≡ t
  digits : q < 2 ^ 24
  top : j ≤ 1

short : (t : ℕ) → t ≤ 16777216 → Short t
short t h = go (eq-or-lt_of_le h)
  where
    go : (t ≡ 16777216) ⊎ (t < 16777216) → Short t
    go (inl e) = record { q = 8388608; j = 1; is = sym e; digits = lit< tt; top = Prim.Native.Nat.suc-le-suc Prim.Native.Nat.zero-le }
    go (inr l) = record { q = t; j = 0; is = mul-one t; digits = l; top = Prim.Native.Nat.zero-le }

-- q * 2^(j + k) is t * 2^k
lift : (t k : ℕ) (s : Short t) → s.q * 2 ^ (s.j + k) ≡ t * 2 ^ k
lift t k s = ap (λ (x : ℕ). s.q * x) (pow-add 2 s.j k) ∙ sym (mul_assoc s.q (2 ^ s.j) (2 ^ k)) ∙ ap (λ (x : ℕ). x * 2 ^ k) s.is

room : (t k : ℕ) (s : Short t) → k ≤ 149 → s.q * 2 ^ (s.j + k) < 2 ^ 277
room t k s h = native.Mathlib.Nat.lt_of_lt_of_le (shl_lt 24 (s.j + k) s.digits) (lib.Pow.pow_mono {i = 24 + (s.j + k)} {j = 277} (add s.j k s.top h))
  where
    add : (j k : ℕ) → j ≤ 1 → k ≤ 149 → 24 + (j + k) ≤ 277
    add j k p q = omega arith

pub whole_value : (t : ℕ) → t ≤ 16777216 → HasValue (of_int binary32 (pos t)) false t 1
unfolding of_int
whole_value t h =
    let s = short t h in
    round_exact binary32 false t 1 s.q (s.j + 149) (lit< tt) s.digits (room t 149 s (native.Mathlib.Nat.le_refl 149)) (sym (lift t 149 s) ∙ sym (mul-one (s.q * 2 ^ (s.j + 149))))

pub cast_ok : (t : ℕ) → t ≤ 16777216 → T (in_float binary32 (pos t))
unfolding in_float
cast_ok t h = le→leb t 16777216 h

-- times 2^-24
scale_eq : (n d t a b : ℕ) → n ≡ t * d → n * (a * b) ≡ t * a * (d * b)
scale_eq n d t a b h = ap (λ (x : ℕ). x * (a * b)) h ∙ native.Mathlib.Nat.mul-mul-mul_comm t d a b

pub part_value : (x : Float) (t : ℕ) → t ≤ 16777216 → HasValue x false t 1 → HasValue (mul binary32 x (of_bits binary32 0x3380_0000)) false (t * 2 ^ 125) (2 ^ 149)
unfolding mul of_bits
part_value nan t h v = absurd v
part_value (inf s) t h v = absurd v
part_value (fin true m e) t h v = absurd (true≢false v.0)
part_value (fin false m e) t h v =
    let s = short t h in
    let n = m * up e * 1 in
    let d = down e * 16777216 in
    let q : n * 2 ^ 149 ≡ t * 2 ^ 125 * d = scale_eq n (down e) t (2 ^ 125) 16777216 v.1 in
    rescale (round binary32 false n d) false n d (t * 2 ^ 125) (2 ^ 149) (mul-pos (down_pos e) (lit< tt)) (sym q)
    (round_exact binary32 false n d s.q (s.j + 125) (mul-pos (down_pos e) (lit< tt)) s.digits (room t 125 s (lib.Dec.lit≤ {m = 125} {n = 149} tt)) (q ∙ ap (λ (x : ℕ). x * d) (sym (lift t 125 s))))

pub sign_value : (x : Float) (s : Bool) (n c : ℕ) → HasValue x false n c → HasValue (cond s (neg x) x) s n c
unfolding neg
sign_value x false n c v = v
sign_value nan true n c v = v
sign_value (inf t) true n c v = v
sign_value (fin true m e) true n c v = absurd (true≢false v.0)
sign_value (fin false m e) true n c v = (refl, v.1)

-- ---- reading: the value of a pattern with the sign s, the field x and the digits t
none_units : (t : ℕ) → t * 2 ^ 0 ≡ (t + 8388608 * min 0 1) * 2 ^ (0 - 1)
none_units t = omega arith

at_one : (x : ℕ) → min (suc x) 1 ≡ 1
at_one x = omega arith

back_one : (x : ℕ) → suc x - 1 ≡ x
back_one x = omega arith

flip : (t : ℕ) → 8388608 + t ≡ t + 8388608 * 1
flip t = omega arith

not_top : (x : ℕ) → suc x < 255 → T (not (eqb (suc x) 255))
not_top x h = not_T (eqb (suc x) 255) (λ (t : T (eqb (suc x) 255)). go (eqb→eq (suc x) 255 t))
  where
    go : suc x ≡ 255 → ⊥
    go e = omega arith

fields_value : (s : Bool) (x t : ℕ) → x < 255 → HasValue (of_fields binary32 s x t) s ((t + 8388608 * min x 1) * 2 ^ (x - 1)) (2 ^ 149)
unfolding of_fields
fields_value s zero t h = subst (λ (n : ℕ). HasValue (odd 24 s t 0 149) s n (2 ^ 149)) (none_units t) (odd_sign 24 s t 0 149)
fields_value s (suc x) t h =
    subst (λ (y : Float). HasValue y s ((t + 8388608 * min (suc x) 1) * 2 ^ (suc x - 1)) (2 ^ 149))
    (sym (cond_no (eqb (suc x) 255) (cond (eqb t 0) (inf s) nan) (odd 24 s (8388608 + t) x 149) (not_top x h)))
    (subst (λ (n : ℕ). HasValue (odd 24 s (8388608 + t) x 149) s n (2 ^ 149))
    (ap₂ (λ (u v : ℕ). u * 2 ^ v) (flip t ∙ ap (λ (u : ℕ). t + 8388608 * u) (sym (at_one x))) (sym (back_one x)))
    (odd_sign 24 s (8388608 + t) x 149))

-- b with its sign off
pub bits_value : (b : ℕ) → b % 2147483648 < 2139095040 → HasValue (of_bits binary32 b) (leb 2147483648 b) (mant (b % 2147483648) * 2 ^ expo (b % 2147483648)) (2 ^ 149)
unfolding of_bits
bits_value b h =
    subst (λ (t : ℕ). HasValue (of_fields binary32 (leb 2147483648 b) (b % 2147483648 / 8388608) t) (leb 2147483648 b) (mant (b % 2147483648) * 2 ^ expo (b % 2147483648)) (2 ^ 149)) (again b)
    (fields_value (leb 2147483648 b) (b % 2147483648 / 8388608) (b % 2147483648 % 8388608) (under (b % 2147483648) h))
  where
    again : (b : ℕ) → b % 2147483648 % 8388608 ≡ b % 8388608
    again b = omega arith

    under : (a : ℕ) → a < 2139095040 → a / 8388608 < 255
    under a h = omega arith
