-- Words written one by one: none, one more, and which they are. Assumes nothing.
use mathlib.Core.Path.{◌≡◌, refl, sym, ap, ◌∙◌, subst}
use mathlib.Core.List.{List, [], ◌∷◌, ◌++◌}
use Prim.Native.Nat.{ℕ, ◌+◌, ◌<◌}
use borrow.Author.Count.{below_more}
use native.Mathlib.Omega.{arith}
use lib.ListN.{length, get_or, set, length-append, get_or-append}
use Rattle.std.proofs.Math.Seq.{get_or-append_seam}
use Rattle.lists.specs.Loops.{tab}
use Rattle.lists.specs.Parts.{spliced}
use Rattle.lists.proofs.Splices.{splice_start, splice_more, set_is, put_size}
use Rattle.lists.proofs.Tabs.{tab_same, tab_list}
use Rattle.tables.specs.Each.{PutEach}

module _ {P : ℕ → ℕ → Type 0} {w : List ℕ} {at : ℕ} where
  pub put_none : PutEach P at 0 w w
  put_none = record { words = []; long = refl; says = λ i h. absurd (omega arith); made = splice_start w at }

  pub put_more : {n v : ℕ} {w' : List ℕ} → at + n < length w → PutEach P at n w w' → P n v → PutEach P at (n + 1) w (set w' (at + n) v)
  put_more {n} {v} {w'} h W p =
      let xs = W.words in
      let l = W.long in
      let size = put_size w at xs W.made l (omega arith) in
      record {
        words = xs ++ v ∷ [];
        long = omega (arith, length-append xs (v ∷ []));
        says = below_more (λ (i : ℕ). P i (get_or (xs ++ v ∷ []) i 0)) n (λ i b. rw (get_or-append xs (v ∷ []) 0 i (omega arith)) (W.says i b))
            (subst (P n) (sym (ap (λ (k : ℕ). get_or (xs ++ v ∷ []) k 0) (sym l) ∙ get_or-append_seam xs v [] 0)) p);
        made = set_is w' (at + n) v (omega arith) ∙ (λ j. spliced (W.made j) (at + n) (v ∷ []))
            ∙ splice_more w at (at + n) xs (v ∷ []) (omega arith) (omega arith);
      }

  -- which words they are, where P says so
  pub put_are : {n : ℕ} {w' : List ℕ} (f : ℕ → ℕ) → PutEach P at n w w' → ((i r : ℕ) → i < n → P i r → r ≡ f i) → w' ≡ spliced w at (tab f n 0)
  put_are {n} f W h =
      let xs = W.words in
      W.made ∙ ap (spliced w at) (sym (tab_list 0 xs n W.long) ∙ tab_same (λ i. get_or xs i 0) f n (λ i b. h i (get_or xs i 0) b (W.says i b)))
