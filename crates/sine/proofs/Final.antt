-- The promise, from what the code works out. Assumes nothing.
use mathlib.Core.Path.{◌≡◌, sym, ap, ◌∙◌, subst}
use mathlib.Core.Logic.{◌⊎◌, inl, inr}
use mathlib.Core.List.{List}
use mathlib.Core.Bool.{Bool, true, false, not, cond}
use Prim.Native.Nat.{ℕ, suc, ◌+◌, ◌-◌, ◌*◌, ◌/◌, ◌%◌, ◌^◌, ◌≤◌, ◌<◌}
use native.Mathlib.Nat.{le_refl, mul-le-mul, mul_comm, div-add-mod, mod-lt}
use native.Mathlib.Omega.{arith}
use native.Mathlib.Numerals.{add-one}
use lib.Dec.{leb, le→leb, lit<}
use lib.Ieee.{Float}
use lib.Ieee.Exact.{HasValue}
use lib.Arith.{lt→nleb}
use lib.Ieee.Bits.{is_true, is_false}
use Rattle.series.specs.Series.{eval, denominator, sin_plus, sin_minus, cos_plus, cos_minus}
use Rattle.series.specs.Value.{sin_grid, cos_grid, blend, fine}
use Rattle.lists.proofs.Numbers.{lt_or_le}
use Rattle.sine.proofs.Halves.{Half}
use Rattle.sine.specs.Angle.{unit, turn_units, Turned, Apart, Near, Accurate}
use Rattle.series.proofs.Coefs.{sin_p, sin_m, cos_p, cos_m, sin_z, cos_z, sin_p_is, sin_m_is, cos_p_is, cos_m_is}
use Rattle.series.proofs.Interval.{Close}
use Rattle.series.proofs.Core.{Weighed, forward, backward}
use Rattle.series.proofs.Sweep.{step}
use Rattle.series.proofs.Arc.{Digits, sine_digits, cosine_near, cosine_far}

-- ---- 24 digits within 10 / 2^24 are within 2^-20
apart : (a b z t : ℕ) → Close (16777216 * a) (16777216 * b + z * t) (10 * z) → Apart (t * 2 ^ 125) a b z
apart a b z t k = record { low = low' (2 ^ 125) (mul-le-mul (le_refl (2 ^ 125)) k.low); high = high' (2 ^ 125) (mul-le-mul (le_refl (2 ^ 125)) k.high) }
  where
    low' : (E : ℕ) → E * (16777216 * a) ≤ E * (16777216 * b + z * t + 10 * z) → 2 ^ 20 * (16777216 * E * a) ≤ 2 ^ 20 * (t * E * z + 16777216 * E * b) + 16777216 * E * z
    low' E h = omega arith

    high' : (E : ℕ) → E * (16777216 * b + z * t) ≤ E * (16777216 * a + 10 * z) → 2 ^ 20 * (t * E * z + 16777216 * E * b) ≤ 2 ^ 20 * (16777216 * E * a) + 16777216 * E * z
    high' E h = omega arith

-- ---- the series of the statement
sin_digits : (u t : ℕ) → Digits sin_p sin_m sin_z u t → Apart (t * 2 ^ 125) (sin_plus 31 unit u) (sin_minus 31 unit u) (denominator 31 unit)
sin_digits u t k =
    apart (sin_plus 31 unit u) (sin_minus 31 unit u) (denominator 31 unit) t
    (subst (λ (L : List ℕ). Close (16777216 * eval L u) (16777216 * sin_minus 31 unit u + denominator 31 unit * t) (10 * denominator 31 unit)) sin_p_is
    (subst (λ (L : List ℕ). Close (16777216 * eval sin_p u) (16777216 * eval L u + denominator 31 unit * t) (10 * denominator 31 unit)) sin_m_is k))

cos_digits : (u t : ℕ) → Digits cos_p cos_m cos_z u t → Apart (t * 2 ^ 125) (cos_plus 32 unit u) (cos_minus 32 unit u) (denominator 32 unit)
cos_digits u t k =
    apart (cos_plus 32 unit u) (cos_minus 32 unit u) (denominator 32 unit) t
    (subst (λ (L : List ℕ). Close (16777216 * eval L u) (16777216 * cos_minus 32 unit u + denominator 32 unit * t) (10 * denominator 32 unit)) cos_p_is
    (subst (λ (L : List ℕ). Close (16777216 * eval cos_p u) (16777216 * eval L u + denominator 32 unit * t) (10 * denominator 32 unit)) cos_m_is k))

cos_digits' : (u t : ℕ) → Digits cos_m cos_p cos_z u t → Apart (t * 2 ^ 125) (cos_minus 32 unit u) (cos_plus 32 unit u) (denominator 32 unit)
cos_digits' u t k =
    apart (cos_minus 32 unit u) (cos_plus 32 unit u) (denominator 32 unit) t
    (subst (λ (L : List ℕ). Close (16777216 * eval L u) (16777216 * cos_plus 32 unit u + denominator 32 unit * t) (10 * denominator 32 unit)) cos_m_is
    (subst (λ (L : List ℕ). Close (16777216 * eval cos_m u) (16777216 * eval L u + denominator 32 unit * t) (10 * denominator 32 unit)) cos_p_is k))

-- ---- sine and cosine at u = j * step + d
near_sine : (s : Bool) (r : Float) (u t : ℕ) → HasValue r s (t * 2 ^ 125) (2 ^ 149) → Digits sin_p sin_m sin_z u t
    → Near r (cond s (sin_minus 31 unit u) (sin_plus 31 unit u)) (cond s (sin_plus 31 unit u) (sin_minus 31 unit u)) (denominator 31 unit)
near_sine false r u t v k = record { sign = false; t = t * 2 ^ 125; value = v; within = sin_digits u t k }
near_sine true r u t v k = record { sign = true; t = t * 2 ^ 125; value = v; within = sin_digits u t k }

near_cosine : (j c w d g : ℕ) (r : Float) → j < 2048 → c + w ≡ 16777216 → Weighed fine c w d g
    → HasValue r (leb 1024 j) (blend (cos_grid j) (cos_grid (suc j)) w * 2 ^ 125) (2 ^ 149)
    → Near r (cos_plus 32 unit (j * step + d)) (cos_minus 32 unit (j * step + d)) (denominator 32 unit)
near_cosine j c w d g r h e k v = go (lt_or_le j 1024)
  where
    t : ℕ
    t = blend (cos_grid j) (cos_grid (suc j)) w

    go : (j < 1024) ⊎ (1024 ≤ j) → Near r (cos_plus 32 unit (j * step + d)) (cos_minus 32 unit (j * step + d)) (denominator 32 unit)
    go (inl l) = record {
      sign = false;
      t = blend (cos_grid j) (cos_grid (suc j)) w * 2 ^ 125;
      value = subst (λ (s : Bool). HasValue r s (blend (cos_grid j) (cos_grid (suc j)) w * 2 ^ 125) (2 ^ 149)) (is_false (leb 1024 j) (lt→nleb 1024 j l)) v;
      within = cos_digits (j * step + d) (blend (cos_grid j) (cos_grid (suc j)) w) (cosine_near j c w d g l e k);
    }
    go (inr l) = record {
      sign = true;
      t = blend (cos_grid j) (cos_grid (suc j)) w * 2 ^ 125;
      value = subst (λ (s : Bool). HasValue r s (blend (cos_grid j) (cos_grid (suc j)) w * 2 ^ 125) (2 ^ 149)) (is_true (leb 1024 j) (le→leb 1024 j l)) v;
      within = cos_digits' (j * step + d) (blend (cos_grid j) (cos_grid (suc j)) w) (cosine_far j c w d g l h e k);
    }

-- ---- the place of an angle
in_half : (f j d g : ℕ) → j < 2048 → d + g ≡ 16777216 * f → j * (16777216 * f) + d ≤ 2048 * (16777216 * f)
in_half f j d g h e = go (mul-le-mul h (le_refl (16777216 * f)))
  where
    go : suc j * (16777216 * f) ≤ 2048 * (16777216 * f) → j * (16777216 * f) + d ≤ 2048 * (16777216 * f)
    go k = omega arith

-- one half of `Accurate`, for either side
make : (x r s : Float) (sx sy : Bool) (n j c w d g q : ℕ) → HasValue x sx n unit → j < 2048 → c + w ≡ 16777216 → Weighed fine c w d g
    → Turned sx sy n (j * step + d) q → Half j w sy r s → Accurate x r s
make x r s sx sy n j c w d g q v h e k tn H =
    let H1 = H.sine in
    let H2 = H.cosine in
    record {
      sign = sy;
      u = j * step + d;
      reduced = record { sign = sx; n = n; value = v; turns = q; turned = tn; size = in_half fine j d g h k.sum };
      sine = near_sine sy r (j * step + d) (blend (sin_grid j) (sin_grid (suc j)) w) (subst (λ (i : ℕ). HasValue r sy (blend (sin_grid j) (sin_grid i) w * 2 ^ 125) (2 ^ 149)) (add-one j) H1) (sine_digits j c w d g h e k);
      cosine = near_cosine j c w d g s h e k (subst (λ (i : ℕ). HasValue s (leb 1024 j) (blend (cos_grid j) (cos_grid i) w * 2 ^ 125) (2 ^ 149)) (add-one j) H2);
    }

place : (f n Q r q k w : ℕ) → n ≡ Q * f + r → Q ≡ (q * 4096 + k) * 16777216 + w → n ≡ q * (68719476736 * f) + (k * (16777216 * f) + (w * f + r))
place f n Q r q k w e h = e ∙ ap (λ (x : ℕ). x * f + r) h ∙ go
  where
    go : ((q * 4096 + k) * 16777216 + w) * f + r ≡ q * (68719476736 * f) + (k * (16777216 * f) + (w * f + r))
    go = omega arith

same_turn : (sx : Bool) (n u q : ℕ) → n ≡ q * turn_units + u → Turned sx sx n u q
same_turn false n u q e = e
same_turn true n u q e = e

other_turn : (sx : Bool) (n u q : ℕ) → n + u ≡ q * turn_units → Turned sx (not sx) n u q
other_turn false n u q e = e
other_turn true n u q e = e

divided : (Q : ℕ) → Q ≡ (Q / 16777216 / 4096 * 4096 + Q / 16777216 % 4096) * 16777216 + Q % 16777216
divided Q = omega arith

-- r more than w parts leaves this much of the step
less : (f c r : ℕ) → 1 ≤ c → r ≤ f → c * f - r + r ≡ c * f
less f c r h k = go (mul-le-mul h (le_refl f))
  where
    go : 1 * f ≤ c * f → c * f - r + r ≡ c * f
    go l = omega arith

left_of : (w : ℕ) → w < 16777216 → 16777216 - w + w ≡ 16777216
left_of w h = omega arith

some_left : (w : ℕ) → w < 16777216 → 1 ≤ 16777216 - w
some_left w h = omega arith

lt_le : (a b : ℕ) → a < b → a ≤ b
lt_le a b h = omega arith

cut_lt : (Q : ℕ) → Q % 16777216 < 16777216
cut_lt Q = omega arith

pub low_side : (x r s : Float) (sx : Bool) (n Q : ℕ) → HasValue x sx n unit → Q ≡ n / fine → Q / 16777216 % 4096 < 2048
    → Half (Q / 16777216 % 4096) (Q % 16777216) sx r s → Accurate x r s
low_side x r s sx n Q v e h H =
    let k = Q / 16777216 % 4096 in
    let w = Q % 16777216 in
    let c = 16777216 - w in
    let o = n % fine in
    let ol : o < fine = mod-lt n (lit< {m = 0} {n = fine} tt) in
    let whole : n ≡ Q * fine + o = sym (subst (λ (y : ℕ). y * fine + o ≡ n) (sym e) (euclid n)) in
    make x r s sx sx n k c w (w * fine + o) (c * fine - o) (Q / 16777216 / 4096) v h (left_of w (cut_lt Q))
    (forward fine c w o (c * fine - o) (left_of w (cut_lt Q)) (lt_le o fine ol) (less fine c o (some_left w (cut_lt Q)) (lt_le o fine ol)))
    (same_turn sx n (k * step + (w * fine + o)) (Q / 16777216 / 4096) (place fine n Q o (Q / 16777216 / 4096) k w whole (divided Q)))
    H
  where
    euclid : (n : ℕ) → n / fine * fine + n % fine ≡ n
    euclid n = ap (λ (y : ℕ). y + n % fine) (mul_comm (n / fine) fine) ∙ div-add-mod n fine

around : (f n q k w r j d c : ℕ) → n ≡ q * (68719476736 * f) + (k * (16777216 * f) + (w * f + r)) → (j + k) * f ≡ 4095 * f → (c + w) * f ≡ 16777216 * f → d + r ≡ c * f
    → n + (j * (16777216 * f) + d) ≡ (q + 1) * (68719476736 * f)
around f n q k w r j d c e a b h = omega arith

pub high_side : (x r s : Float) (sx : Bool) (n Q : ℕ) → HasValue x sx n unit → Q ≡ n / fine → 2048 ≤ Q / 16777216 % 4096
    → Half (4095 - Q / 16777216 % 4096) (16777216 - Q % 16777216) (not sx) r s → Accurate x r s
high_side x r s sx n Q v e h H =
    let k = Q / 16777216 % 4096 in
    let w = Q % 16777216 in
    let c = 16777216 - w in
    let o = n % fine in
    let j = 4095 - k in
    let d = c * fine - o in
    let q = Q / 16777216 / 4096 in
    let ol : o < fine = mod-lt n (lit< {m = 0} {n = fine} tt) in
    let whole : n ≡ Q * fine + o = sym (subst (λ (y : ℕ). y * fine + o ≡ n) (sym e) (euclid n)) in
    let lack : d + o ≡ c * fine = less fine c o (some_left w (cut_lt Q)) (lt_le o fine ol) in
    let sum : c + w ≡ 16777216 = left_of w (cut_lt Q) in
    make x r s sx (not sx) n j w c d (w * fine + o) (q + 1) v (under Q h) (swap c w sum)
    (backward fine w c d (w * fine + o) (forward fine c w o d sum (lt_le o fine ol) lack))
    (other_turn sx n (j * step + d) (q + 1) (around fine n q k w o j d c (place fine n Q o q k w whole (divided Q)) (ap (λ (y : ℕ). y * fine) (opposite Q)) (ap (λ (y : ℕ). y * fine) sum) lack))
    H
  where
    euclid : (n : ℕ) → n / fine * fine + n % fine ≡ n
    euclid n = ap (λ (y : ℕ). y + n % fine) (mul_comm (n / fine) fine) ∙ div-add-mod n fine

    swap : (c w : ℕ) → c + w ≡ 16777216 → w + c ≡ 16777216
    swap c w e = omega arith

    under : (Q : ℕ) → 2048 ≤ Q / 16777216 % 4096 → 4095 - Q / 16777216 % 4096 < 2048
    under Q h = omega arith

    opposite : (Q : ℕ) → 4095 - Q / 16777216 % 4096 + Q / 16777216 % 4096 ≡ 4095
    opposite Q = omega arith
