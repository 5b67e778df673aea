-- Laws of a walk over the parts of a list: what a part that it gives takes from what is left. Assumes nothing.
use Prim.Native.Nat.{ℕ, ◌+◌, ◌-◌, ◌/◌, ◌≤◌}
use mathlib.Core.Path.{◌≡◌, ap, ◌∙◌}
use mathlib.Core.List.{List, [], ◌∷◌}
use native.Mathlib.Omega.{arith}
use lib.ListN.{length}
use Rattle.block.specs.Runs.{Run, sum_over}
use Rattle.block.specs.Walk.{Passes}

-- a walk over the list bs stands at entry s of bs'
pub record Walks (bs bs' : List ℕ) (s : ℕ) : Type 0 where
  pub list : bs' ≡ bs
  pub start : s ≤ length bs / 4 + 1

pub walks_on : {bs b b' r : List ℕ} {s s' : ℕ} → Walks bs b s → Passes b s r b' s' → length r / 4 ≤ length b / 4 - s → Walks bs b' s'
walks_on W P h = record {
  list = P.list ∙ W.list;
  start = let l = ap length W.list in omega (arith, P.next, P.there, W.start);
}

module _ (f : List ℕ → ℕ) where
  -- one part more
  pub sum_first : {rs rs' : List Run} {r : Run} → rs ≡ r ∷ rs' → sum_over f rs ≡ f r.items + sum_over f rs'
  unfolding sum_over
  sum_first e = ap (sum_over f) e

  -- and none
  pub sum_end : {rs : List Run} {t all : ℕ} → rs ≡ [] → t + sum_over f rs ≡ all → t ≡ all
  unfolding sum_over
  sum_end e p = omega (arith, ap (sum_over f) e)
