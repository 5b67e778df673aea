-- Laws of the read of a value, over its width and what is made of its words. Assumes nothing.
use Prim.Native.Nat.{ℕ, ◌*◌, ◌≤◌, ◌<◌}
use mathlib.Core.Path.{◌≡◌, refl, sym, ap, ◌∙◌}
use mathlib.Core.List.{List}
use borrow.Author.Tests.{lt-ltb, le-ltb}
use native.Mathlib.Nat.{add-zero}
use Rattle.bits.specs.Bits.{word_at}
use Rattle.std.specs.Prelude.{Option, Some, None, Bool, true, false, cond, ltb}
use Rattle.block.specs.Value.{count_of, value_word, value_at}

module _ {A : Type 0} (made : ℕ → A) (w : ℕ) (values : List ℕ) (missing : A) where
  pub value_there : (f : Option ℕ) (n k : ℕ) (r : A) → f ≡ Some n → k ≡ n → k < count_of w values → r ≡ made k → r ≡ value_at made w values f missing
  unfolding value_at
  value_there f n k r e q h p = rw (e, ← q, lt-ltb k (count_of w values) h, p)

  pub value_past : (f : Option ℕ) (n k : ℕ) → f ≡ Some n → k ≡ n → count_of w values ≤ k → missing ≡ value_at made w values f missing
  unfolding value_at
  value_past f n k e q h = rw (e, ← q, le-ltb k (count_of w values) h)

  pub value_missing : (f : Option ℕ) → f ≡ None → missing ≡ value_at made w values f missing
  unfolding value_at
  value_missing f e = rw e

-- the first word of a value stands where the value starts
pub word_first : (w : ℕ) (values : List ℕ) (n v : ℕ) → v ≡ word_at values (4 * w * n) → v ≡ value_word w values n 0
word_first w values n v e = e ∙ ap (word_at values) (sym (add-zero (4 * w * n)))

-- what is made of a value read is what is read where that is made of each value
module _ {A B : Type 0} (f : A → B) (made : ℕ → A) (w : ℕ) (values : List ℕ) where
  pub value_by : (o : Option ℕ) (m : A) → f (value_at made w values o m) ≡ value_at (λ n. f (made n)) w values o (f m)
  unfolding value_at
  value_by None m = refl
  value_by (Some n) m = go (ltb n (count_of w values))
    where
      go : (b : Bool) → f (cond b (made n) m) ≡ cond b (f (made n)) (f m)
      go true = refl
      go false = refl
