-- FORMAT 6.3: how many corners a line set has, and that they are at points.
use mathlib.Core.Path.{◌≡◌, refl, ap, ◌∙◌}
use mathlib.Core.Bool.{Bool, true, false, cond}
use Rattle.std.specs.Prelude.{None, Some}
use mathlib.Core.List.{List, [], ◌∷◌, ◌++◌}
use Prim.Native.Nat.{ℕ, suc, ◌+◌, ◌≤◌, ◌<◌}
use borrow.Author.Tests.{ltb-true, lt-ltb, le-ltb}
use lib.Dec.{ltb}
use lib.ListN.{length, get_or, length-append}
use Rattle.block.specs.Runs.{Run, run_of, runs, sum_over}
use Rattle.lists.specs.Loops.{All}
use Rattle.lists.specs.Lists.{map_n, join_n}
use Rattle.mesh.specs.Lines.{these, somes}
use Rattle.mesh.specs.Sizes.{named}
use Rattle.lists.proofs.Lists.{All_join_n}
use Rattle.lines.specs.Uses.{LineUse, use_of, run_uses, line_uses}

-- ---- one entry

module _ {p e : ℕ} (num k : ℕ) where
  pub use_here : e < p → these (use_of p num k e) ≡ record { point = e; place = k; number = num } ∷ []
  unfolding use_of
  use_here h = rw (lt-ltb e p h)

  pub use_past : p ≤ e → these (use_of p num k e) ≡ []
  unfolding use_of
  use_past h = rw (le-ltb e p h)

-- ---- how many there are

length_run : (p num k : ℕ) (es : List ℕ) → length (somes (map_n (use_of p num) k es)) ≡ named p es
unfolding somes map_n use_of named
length_run p num k [] = refl
length_run p num k (e ∷ es) = go (ltb e p) _ _ _ (length_run p num (suc k) es)
  where
    go : (b : Bool) (u : LineUse) (l : List LineUse) (n : ℕ) → length l ≡ n → length (these (cond b (Some u) None) ++ l) ≡ cond b (suc n) n
    go true u l n h = ap suc h
    go false u l n h = h

length_from : (p num : ℕ) (rs : List Run) → length (join_n (run_uses p) num rs) ≡ sum_over (named p) rs
unfolding join_n run_uses sum_over
length_from p num [] = refl
length_from p num (r ∷ rs) =
    length-append (run_uses p num r) (join_n (run_uses p) (suc num) rs) ∙ (λ i. length_run p num r.start r.items i + length_from p (suc num) rs i)

pub length_uses : (p : ℕ) (es : List ℕ) → length (line_uses p es) ≡ sum_over (named p) (runs es)
unfolding line_uses
length_uses p es = length_from p 0 (runs es)

-- ---- each is at a point

below_run : (p num k : ℕ) (es : List ℕ) → All (λ (u : LineUse). u.point < p) (somes (map_n (use_of p num) k es))
unfolding somes map_n use_of
below_run p num k [] = tt
below_run p num k (e ∷ es) = go (ltb e p) refl _ (below_run p num (suc k) es)
  where
    go : (b : Bool) → ltb e p ≡ b → (l : List LineUse) → All (λ (u : LineUse). u.point < p) l
        → All (λ (u : LineUse). u.point < p) (these (cond b (Some (record { point = e; place = k; number = num })) None) ++ l)
    go true h l r = (ltb-true e p h, r)
    go false h l r = r

pub uses_below : (p : ℕ) (es : List ℕ) → All (λ (u : LineUse). u.point < p) (line_uses p es)
unfolding line_uses run_uses
uses_below p es =
    All_join_n (λ (u : LineUse). u.point < p) (run_uses p) (run_of 0 []) 0 (runs es) (λ j b. let r = get_or (runs es) j (run_of 0 []) in below_run p (0 + j) r.start r.items)
