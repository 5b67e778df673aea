-- FORMAT 14: the digits of a number, one at a time.
use Prim.Native.Nat.{ℕ, suc, ◌-◌, ◌/◌, ◌%◌, ◌≤◌}
use mathlib.Core.Path.{◌≡◌, ap, ◌∙◌}
use mathlib.Core.Bool.{Bool, true, false, ◌&&◌}
use mathlib.Core.List.{[], ◌∷◌, ◌++◌}
use native.Mathlib.Omega.{arith}
use lib.Dec.{ltb}
use Rattle.lists.specs.Loops.{pick}
use Rattle.text.specs.Digits.{digit_byte, digits}
use Rattle.text.specs.declared.writer.Writer.{Writer}
use Rattle.text.specs.Wrote.{Writes}
use Rattle.text.proofs.Pieces.{then, looser, nothing}

module _ (short : Bool) (b k n : ℕ) where
  digits_none : k ≡ 0 → digits short b k n ≡ []
  unfolding digits
  digits_none e = ap (λ (j : ℕ). digits short b j n) e

  by_last : (t : Bool) → (short && ltb n b) ≡ t → 1 ≤ k
      → digits short b k n ≡ pick t [] (digits short b (k - 1) (n / b)) ++ (digit_byte (n % b) ∷ [])
  unfolding digits
  by_last t e h =
      let s : k ≡ suc (k - 1) = omega arith in
      ap (λ (j : ℕ). digits short b j n) s
      ∙ ap (λ (q : Bool). pick q [] (digits short b (k - 1) (n / b)) ++ (digit_byte (n % b) ∷ [])) e

  digits_last : (short && ltb n b) ≡ true → 1 ≤ k → digits short b k n ≡ digit_byte (n % b) ∷ []
  digits_last = by_last true

  digits_more : (short && ltb n b) ≡ false → 1 ≤ k → digits short b k n ≡ digits short b (k - 1) (n / b) ++ (digit_byte (n % b) ∷ [])
  digits_more = by_last false

-- ---- the same of digits that are put

pub put_none : {x : Writer} (short : Bool) (b k n : ℕ) → k ≡ 0 → Writes x (digits short b k n) k x
put_none {x} short b k n e = rw (digits_none short b k n e) (nothing x k)

module _ {x y : Writer} (short : Bool) (b k n : ℕ) where
  pub put_last : (short && ltb n b) ≡ true → (k ≡ 0 → ⊥) → Writes x (digit_byte (n % b) ∷ []) 1 y → Writes x (digits short b k n) k y
  put_last e h w =
      let p : 1 ≤ k = omega arith in
      rw (digits_last short b k n e p) (looser k p w)

  pub put_more : {z : Writer} → (short && ltb n b) ≡ false → (k ≡ 0 → ⊥) → Writes x (digits short b (k - 1) (n / b)) (k - 1) y
      → Writes y (digit_byte (n % b) ∷ []) 1 z → Writes x (digits short b k n) k z
  put_more e h v w =
      let p : 1 ≤ k = omega arith in
      rw (digits_more short b k n e p) (looser k (omega arith) (then v w))
