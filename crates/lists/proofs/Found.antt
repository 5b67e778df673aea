-- What a search by number gives, as an Option: of a range, and block by block.
use mathlib.Core.Path.{◌≡◌, refl, sym, ap, ◌∙◌}
use mathlib.Core.Bool.{Bool, true, false}
use Prim.Native.Nat.{ℕ, ◌+◌, ◌-◌, ◌≤◌, ◌<◌}
use native.Mathlib.Nat.{sub-zero}
use native.Mathlib.Omega.{arith}
use borrow.Author.Tests.{lt-ltb, le-ltb, ltb-true, ltb-false}
use lib.Dec.{ltb}
use Rattle.std.specs.Prelude.{Option, Some, None, MatchOption, unwrap_or}
use Rattle.lists.specs.Loops.{pick, first}
use Rattle.lists.specs.Searches.{found}
use Rattle.lists.proofs.Loops.{first_stop}
use Rattle.lists.proofs.Searches.{first_below, first_from, past_to, none_to, block_hit}

module _ (n k : ℕ) where
  pub found_some : (h : ℕ) → h ≡ k → h < n → Some h ≡ found n k
  unfolding found
  found_some h e l = ap Some e ∙ sym (ap (λ (b : Bool). pick b (Some k) None) (lt-ltb k n (omega arith)))

  pub found_none : n ≤ k → None ≡ found n k
  unfolding found
  found_none e = sym (ap (λ (b : Bool). pick b (Some k) None) (le-ltb k n (omega arith)))

  pub some_found : (h : ℕ) → Some h ≡ found n k → (h ≡ k) × (h < n)
  unfolding found
  some_found h e = go (ltb k n) refl e
    where
      go : (b : Bool) → ltb k n ≡ b → Some h ≡ pick b (Some k) None → (h ≡ k) × (h < n)
      go true q r = let z : h ≡ k = ap (λ (o : Option ℕ). unwrap_or o 0) r in let l : k < n = ltb-true k n q in (z, omega arith)
      go false q r = let z : ⊥ = cc in absurd z

  pub none_found : None ≡ found n k → n ≤ k
  unfolding found
  none_found e = go (ltb k n) refl e
    where
      go : (b : Bool) → ltb k n ≡ b → None ≡ pick b (Some k) None → n ≤ k
      go true q r = let z : ⊥ = cc in absurd z
      go false q r = ltb-false k n q

-- what a search of a range by its numbers gives, where none before the range passes
pub found_by : (f : ℕ → Bool) (a b : ℕ) (r : Option ℕ) → a ≤ b → ((j : ℕ) → j < a → f j ≡ false)
    → MatchOption r ((k : ℕ) → a ≤ k → k < b → f k ≡ false) (λ i. (a ≤ i) × (i < b) × (f i ≡ true) × ((k : ℕ) → a ≤ k → k < i → f k ≡ false))
    → r ≡ found b (first f b 0)
found_by f a b None h clear free = let e = none_to f a b h free ∙ first_from f b a clear h in found_none b _ (omega (arith, e))
found_by f a b (Some i) h clear (l, m, t, free) =
    let e : i ≡ first f b 0 = sym (sym (first_from f b a clear h) ∙ past_to f b a i l (omega arith) free ∙ first_stop f b i m t) in
    found_some b _ i e m

-- ---- block by block

module _ (f : ℕ → Bool) (n : ℕ) where
  none_of : ((j : ℕ) → j < n → f j ≡ false) → n ≡ first f n 0
  none_of free = none_to f 0 n (omega arith) (λ j _ l. free j l) ∙ ap (λ m. first f m 0) (sub-zero n)

  pub none_here : ((j : ℕ) → j < n → f j ≡ false) → None ≡ found n (first f n 0)
  none_here free = found_none n _ (omega (arith, none_of free))

  -- of the last w numbers
  pub last_block : (w : ℕ) → w ≤ n → ((j : ℕ) → j < n - w → f j ≡ false) → found (n - w + w) (first f w (n - w)) ≡ found n (first f n 0)
  last_block w h clear =
      let e : n - w + w ≡ n = omega arith in
      let d : w ≡ n - (n - w) = omega arith in
      (λ i. found (e i) (first f (d i) (n - w))) ∙ ap (found n) (first_from f n (n - w) clear (omega arith))

  -- the first among the numbers up to e, where there is one and where there is none
  pub first_all : (e h : ℕ) → e ≤ n → Some h ≡ found e (first f e 0) → Some h ≡ found n (first f n 0)
  first_all e h l r =
      let s = some_found e _ h r in
      let z = block_hit f n 0 e h (omega arith) l (s.0 ∙ ap (λ m. first f m 0) (sym (sub-zero e))) s.1 ∙ ap (λ m. first f m 0) (sub-zero n) in
      found_some n _ h z (omega (arith, s.1))

pub clear_to : (f : ℕ → Bool) (e : ℕ) → None ≡ found e (first f e 0) → (j : ℕ) → j < e → f j ≡ false
clear_to f e r j l = first_below f e 0 j (omega arith) (omega (arith, none_found e _ r))
