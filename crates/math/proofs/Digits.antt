-- The root digit by digit: what a digit takes and leaves (`Digit`), that each leaves what the next asks for (`SoFar`), and the last the whole root.
use mathlib.Core.Logic.{inl, inr}
use mathlib.Core.Path.{◌≡◌, sym, ap, ◌∙◌, subst}
use Prim.Native.Nat.{ℕ, ◌+◌, ◌-◌, ◌*◌, ◌/◌, ◌%◌, ◌^◌, ◌≤◌, ◌<◌}
use native.Mathlib.Nat.{mul_assoc, mul-zero, mul-one, pow-suc, mul_comm}
use native.Mathlib.Omega.{arith}
use native.Mathlib.Numerals.{add-one}
use lib.Pow.{pow_mono}
use Rattle.lists.proofs.Squares.{square_next, square_double}
use Rattle.math.specs.SquareRoot.{isqrt}
use Rattle.math.specs.Digit.{Bit, Digit, SoFar}
use Rattle.math.proofs.Whole.{whole_root}

-- what a digit takes off the remainder
pub taken_off : (rest trial b : ℕ) → Bit rest trial b → trial * b ≤ rest
taken_off rest trial b (inl w) = let e : trial * b ≡ 0 = ap (λ (x : ℕ). trial * x) w.1 ∙ mul-zero trial in omega arith
taken_off rest trial b (inr w) = let e : trial * b ≡ trial = ap (λ (x : ℕ). trial * x) w.1 ∙ mul-one trial in omega (arith, w.0)

pub bit_small : (rest trial b : ℕ) → Bit rest trial b → b ≤ 1
bit_small rest trial b (inl w) = omega (arith, w.1)
bit_small rest trial b (inr w) = omega (arith, w.1)

pub digit : (q r two b : ℕ) → r ≤ 2 * q → two < 4 → Bit (r * 4 + two) (q * 4 + 1) b → Digit q r two (q * 2 + b) (r * 4 + two - (q * 4 + 1) * b)
digit q r two b h k (inl w) =
    subst (λ (x : ℕ). Digit q r two (q * 2 + x) (r * 4 + two - (q * 4 + 1) * x)) (sym w.1)
    (record { longer = omega arith; whole = omega (arith, w.0, square_double q, ap (λ (x : ℕ). x * x) (mul_comm 2 q)); small = omega (arith, w.0) })
digit q r two b h k (inr w) =
    subst (λ (x : ℕ). Digit q r two (q * 2 + x) (r * 4 + two - (q * 4 + 1) * x)) (sym w.1)
    (record { longer = omega arith; whole = omega (arith, w.0, square_next (q * 2), square_double q, ap (λ (x : ℕ). x * x) (mul_comm 2 q)); small = omega (arith, w.0) })

pub so_far_start : (s : ℕ) → s < 2 ^ 32 → SoFar s 0 0 0 s
so_far_start s h = record { turns = omega arith; small = omega arith; whole = omega arith; word = h; within = omega arith }

-- a turn before the last still has a root of 24 digits at most
pub so_far_room : (s done q r rest : ℕ) → SoFar s done q r rest → done < 25 → q < 2 ^ 24
so_far_room s done q r rest d h = let k : done ≤ 24 = omega arith in let m : 2 ^ done ≤ 2 ^ 24 = pow_mono k in omega (arith, d.within)

pub so_far_step : (s done q r rest e t : ℕ) → SoFar s done q r rest → done < 25 → Digit q r (rest / 2 ^ 30) e t → SoFar s (done + 1) e t (rest % 2 ^ 30 * 4)
so_far_step s done q r rest e t d h g =
    let p : s * 4 ^ (done + 1) ≡ s * 4 ^ done * 4 = ap (λ (x : ℕ). s * 4 ^ x) (add-one done) ∙ ap (λ (x : ℕ). s * x) (pow-suc 4 done) ∙ sym (mul_assoc s (4 ^ done) 4) in
    let w : 2 ^ (done + 1) ≡ 2 ^ done * 2 = ap (λ (x : ℕ). 2 ^ x) (add-one done) ∙ pow-suc 2 done in
    record {
      turns = omega arith;
      small = omega (arith, g.small);
      whole = omega (arith, p, d.whole, g.whole);
      word = omega arith;
      within = omega (arith, w, d.within, g.longer);
    }

pub so_far_end : (s done q r rest : ℕ) → s < 2 ^ 32 → SoFar s done q r rest → 25 ≤ done → q ≡ isqrt 25 (s * 2 ^ 18)
so_far_end s done q r rest h d f =
    let e : done ≡ 25 = omega (arith, d.turns) in
    let w : s * 2 ^ 50 ≡ (q * q + r) * 2 ^ 32 + rest = ap (λ (k : ℕ). s * 4 ^ k) (sym e) ∙ d.whole in
    whole_root (s * 2 ^ 18) q (omega arith) (omega (arith, w, d.word)) (omega (arith, w, d.word, d.small, square_next q))
