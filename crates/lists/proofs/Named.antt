-- The words that name numbers: none by 0, and n by n + 1.
use mathlib.Core.Path.{◌≡◌, refl, ap}
use Prim.Native.Nat.{ℕ, zero, suc, ◌+◌, ◌-◌, ◌≤◌}
use native.Mathlib.Numerals.{add-one}
use native.Mathlib.Omega.{arith}
use Rattle.std.specs.Prelude.{Option, Some, None, SomeIff}
use Rattle.lists.specs.Named.{named_by}

pub named_none : named_by 0 ≡ None
unfolding named_by
named_none = refl

pub named_next : (n : ℕ) → named_by (n + 1) ≡ Some n
unfolding named_by
named_next n = rw add-one

-- one less than the word, where there is one
pub named_sub : (word : ℕ) (r : Option ℕ) → SomeIff r (1 ≤ word) (word - 1) → r ≡ named_by word
unfolding named_by
named_sub zero None s = refl
named_sub zero (Some x) s = let z : ⊥ = omega (arith, s.0) in absurd z
named_sub (suc n) None s = let h : 1 ≤ suc n = omega arith in absurd (s h)
named_sub (suc n) (Some x) s = let e : x ≡ n = omega (arith, s.1) in ap Some e

-- the word that names n
pub named_word : (word n : ℕ) → named_by word ≡ Some n → word ≡ n + 1
unfolding named_by
named_word zero n e = cc
named_word (suc m) n e = let h : m ≡ n = cc in omega arith
