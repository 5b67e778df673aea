-- The test of `is_zero`, the absolute value, and how `choose` finds the minimum and the maximum.
use mathlib.Core.Path.{◌≡◌, refl, sym, ap, ◌∙◌}
use mathlib.Core.Bool.{Bool, true, false, not, ◌&&◌, ◌||◌, beq, cond, true≢false}
use Prim.Native.Nat.{ℕ, zero, suc, ◌*◌}
use native.Mathlib.Nat.{zero-mul}
use native.Mathlib.Omega.{arith}
use borrow.Author.Tests.{ne_eqb}
use lib.Dec.{eqb, eqb-suc-zero}
use lib.Ieee.{Float, nan, inf, fin, binary32, up, down, lt, eq, div, of_bits, is_nan}
use Rattle.std.specs.Float.{float_with_sign}
use Rattle.math.specs.Vector.{zero_f, one_f}
use Rattle.math.specs.Order.{is_zero, negative, magnitude, choice, min_of, max_of}
use Rattle.math.proofs.Sorts.{some, nothing}

-- ---- the tests

zero_level : (s : Bool) (a b : ℕ) → a ≡ 0 → b ≡ 0 → (eqb a b && (beq s false || eqb a 0)) ≡ true
zero_level true a b p q = rw (p, q) refl
zero_level false a b p q = rw (p, q) refl

some_level : (s : Bool) (a b : ℕ) → (a ≡ b → ⊥) → (eqb a b && (beq s false || eqb a 0)) ≡ false
some_level s a b h = rw (ne_eqb a b h) refl

pub zero_test : (x : Float) → eq x zero_f ≡ is_zero x
unfolding eq of_bits is_zero
zero_test nan = refl
zero_test (inf s) = refl
zero_test (fin s zero e) = zero_level s (0 * up e * 1) (0 * 1 * down e) (ap (λ (x : ℕ). x * 1) (zero-mul (up e))) (nothing (down e))
zero_test (fin s (suc m) e) = some_level s (suc m * up e * 1) (0 * 1 * down e) (λ h. omega (arith, h, nothing (down e), some m e)) ∙ sym (eqb-suc-zero m)

-- ---- the absolute value

-- as `std` has it
pub with_sign : (x : Float) → float_with_sign false x ≡ magnitude x
unfolding float_with_sign magnitude
with_sign nan = refl
with_sign (inf s) = refl
with_sign (fin s m e) = refl

-- ---- the minimum and the maximum

-- the sign of a zero is that of its reciprocal
zero_sign : (x : Float) → is_zero x ≡ true → (lt (div binary32 one_f x) zero_f ≡ negative x) × (lt zero_f (div binary32 one_f x) ≡ not (negative x))
unfolding lt div of_bits is_zero negative
zero_sign nan h = absurd (true≢false (sym h))
zero_sign (inf s) h = absurd (true≢false (sym h))
zero_sign (fin true zero e) h = (refl, refl)
zero_sign (fin false zero e) h = (refl, refl)
zero_sign (fin s (suc m) e) h = absurd (true≢false (sym h ∙ eqb-suc-zero m))

-- which is wanted counts for a zero only
wanted_at_zero : (past v w : Bool) (a b : Float) → (is_zero b ≡ true → v ≡ w) → choice past v a b ≡ choice past w a b
unfolding choice
wanted_at_zero past v w a b h = ap (λ (t : Bool). cond (is_nan a) b (cond (is_nan b) a (cond (past || (is_zero a && t)) b a))) (both (is_zero b) h)
  where
    both : (z : Bool) → (z ≡ true → v ≡ w) → (z && v) ≡ (z && w)
    both true k = k refl
    both false k = refl

pub min_choice : (a b : Float) → choice (lt b a) (lt (div binary32 one_f b) zero_f) a b ≡ min_of a b
unfolding min_of
min_choice a b = wanted_at_zero (lt b a) (lt (div binary32 one_f b) zero_f) (negative b) a b (λ z. (zero_sign b z).0)

pub max_choice : (a b : Float) → choice (lt a b) (lt zero_f (div binary32 one_f b)) a b ≡ max_of a b
unfolding max_of
max_choice a b = wanted_at_zero (lt a b) (lt zero_f (div binary32 one_f b)) (not (negative b)) a b (λ z. (zero_sign b z).1)
