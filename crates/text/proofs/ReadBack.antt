-- FORMAT 14: the digits of a number, read back, give the number; and they are the fewest that do.
use Prim.Native.Nat.{ℕ, zero, suc, ◌+◌, ◌-◌, ◌*◌, ◌/◌, ◌%◌, ◌^◌, ◌≤◌, ◌<◌}
use mathlib.Core.Path.{◌≡◌, refl, sym, ap, ◌∙◌, subst}
use mathlib.Core.Bool.{Bool, true, false, ◌&&◌}
use mathlib.Core.List.{List, [], ◌∷◌, ◌++◌}
use native.Mathlib.Nat.{pow-zero, pow-suc, div-add-mod', mod-lt, mod-eq_of_lt, lt_of_lt_of_le}
use native.Mathlib.Omega.{arith}
use lib.Dec.{ltb}
use lib.ListN.{length}
use borrow.Author.Tests.{lt-ltb, le-ltb, ltb-true, ltb-false}
use Rattle.lists.specs.Loops.{pick}
use Rattle.lists.proofs.Numbers.{before_lt}
use Rattle.lists.proofs.Lists.{one_more}
use Rattle.lists.proofs.Tests.{and_right}
use Rattle.text.specs.Digits.{digit_byte, digits, hexadecimal, decimal, digit_of, read_on}

digit_read : (d : ℕ) → d < 16 → digit_of (digit_byte d) ≡ d
unfolding digit_byte digit_of
digit_read d h = go (ltb d 10) refl where
  go : (t : Bool) → ltb d 10 ≡ t → pick (ltb (pick t (48 + d) (87 + d)) 58) (pick t (48 + d) (87 + d) - 48) (pick t (48 + d) (87 + d) - 87) ≡ d
  go true e =
      let l : d < 10 = ltb-true d 10 e in
      ap (λ (q : Bool). pick q (48 + d - 48) (48 + d - 87)) (lt-ltb (48 + d) 58 (omega arith)) ∙ omega arith
  go false e =
      let l : 10 ≤ d = ltb-false d 10 e in
      ap (λ (q : Bool). pick q (87 + d - 48) (87 + d - 87)) (le-ltb (87 + d) 58 (omega arith)) ∙ omega arith

read_last : (b n : ℕ) (l : List ℕ) (c : ℕ) → read_on b n (l ++ (c ∷ [])) ≡ read_on b n l * b + digit_of c
unfolding read_on
read_last b n [] c = refl
read_last b n (x ∷ l) c = read_last b (n * b + digit_of x) l c

-- k digits are enough for a number below b ^ k
pub read_digits : (short : Bool) (b k n : ℕ) → 0 < b → b ≤ 16 → n < b ^ k → read_on b 0 (digits short b k n) ≡ n
unfolding digits read_on
read_digits short b zero n p w h = let l : n < 1 = subst (λ (m : ℕ). n < m) (pow-zero b) h in omega arith
read_digits short b (suc k) n p w h = go (short && ltb n b) refl (read_digits short b k (n / b) p w (before_lt b k n p h)) where
  l : n % b < 16
  l = lt_of_lt_of_le (mod-lt n p) w

  go : (t : Bool) → (short && ltb n b) ≡ t → read_on b 0 (digits short b k (n / b)) ≡ n / b
      → read_on b 0 (pick t [] (digits short b k (n / b)) ++ (digit_byte (n % b) ∷ [])) ≡ n
  go true e ih =
      read_last b 0 [] (digit_byte (n % b)) ∙ ap (λ (d : ℕ). 0 * b + d) (digit_read (n % b) l ∙ mod-eq_of_lt (ltb-true n b (and_right short (ltb n b) e))) ∙ omega arith
  go false e ih =
      read_last b 0 (digits short b k (n / b)) (digit_byte (n % b))
      ∙ ap (λ (q : ℕ). q * b + digit_of (digit_byte (n % b))) ih
      ∙ ap (λ (d : ℕ). n / b * b + d) (digit_read (n % b) l)
      ∙ div-add-mod' n b

pub read_decimal : (n : ℕ) → n < 2 ^ 32 → read_on 10 0 (decimal n) ≡ n
unfolding decimal
read_decimal n h = read_digits true 10 10 n (omega arith) (omega arith) (omega arith)

pub read_hexadecimal : (n : ℕ) → n < 2 ^ 32 → read_on 16 0 (hexadecimal n) ≡ n
unfolding hexadecimal
read_hexadecimal n h = read_digits false 16 8 n (omega arith) (omega arith) (omega arith)

-- ---- how many there are

pub digits_most : (short : Bool) (b k n : ℕ) → length (digits short b k n) ≤ k
unfolding digits
digits_most short b zero n = omega arith
digits_most short b (suc k) n = go (short && ltb n b) (digits_most short b k (n / b)) where
  go : (t : Bool) → length (digits short b k (n / b)) ≤ k → length (pick t [] (digits short b k (n / b)) ++ (digit_byte (n % b) ∷ [])) ≤ suc k
  go true ih = omega arith
  go false ih = one_more (digits short b k (n / b)) (digit_byte (n % b)) k ih

-- no leading zero: a number below b ^ (i + 1) has at most i + 1 digits
pub digits_short : (b k i n : ℕ) → 0 < b → n < b ^ suc i → length (digits true b k n) ≤ suc i
unfolding digits
digits_short b zero i n p h = omega arith
digits_short b (suc k) zero n p h =
    let l : n < b = subst (λ (m : ℕ). n < m) (pow-suc b 0 ∙ ap (λ (m : ℕ). m * b) (pow-zero b) ∙ omega arith) h in
    subst (λ (t : Bool). length (pick t [] (digits true b k (n / b)) ++ (digit_byte (n % b) ∷ [])) ≤ 1) (sym (lt-ltb n b l)) (omega arith)
digits_short b (suc k) (suc i) n p h = go (ltb n b) (digits_short b k i (n / b) p (before_lt b (suc i) n p h)) where
  go : (t : Bool) → length (digits true b k (n / b)) ≤ suc i → length (pick t [] (digits true b k (n / b)) ++ (digit_byte (n % b) ∷ [])) ≤ suc (suc i)
  go true ih = omega arith
  go false ih = one_more (digits true b k (n / b)) (digit_byte (n % b)) (suc i) ih
