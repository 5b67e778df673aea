-- One law for each way out of the functions that branch.
use mathlib.Core.Path.{◌≡◌, refl, sym, ap, ◌∙◌}
use mathlib.Core.Bool.{Bool, true, false, cond}
use mathlib.Core.List.{List}
use Prim.Native.Nat.{ℕ}
use borrow.Author.Tests.{eq-eqb, ne_eqb}
use lib.Dec.{eqb}
use lib.Ieee.{Float, lt}
use Rattle.math.specs.declared.vector.V3.{V3}
use Rattle.std.specs.Prelude.{Option}
use Rattle.std.specs.Prelude.{Some, None}
use Rattle.math.specs.Vector.{vadd, vdot, unit_of}
use Rattle.block.specs.declared.crease.CreaseRule.TheVariants.{Bound}
use Rattle.mesh.specs.Normals.{Hit, is_near, sum_near, near_sum, crease_sum, or_else}
use Rattle.mesh.specs.Normals.{near_by}

module _ (b : Float) (own : ℕ) (u : V3) (g : ℕ) (s n : V3) where
  pub near_own : (k : (Option V3)) → g ≡ own → s ≡ near_by b own u g k s n
  unfolding near_by
  near_own k e = rw (eq-eqb g own e)

  module _ (v v' : V3) (e : v' ≡ v) (c : Float) (h : c ≡ vdot u v') where
    -- whether it is the own face or not
    pub near_far : lt b c ≡ false → s ≡ near_by b own u g (Some v) s n
    unfolding near_by is_near
    near_far q = rw (← e, ← h, q) (sym (either (eqb g own)))
      where
        either : (a : Bool) → cond a s s ≡ s
        either true = refl
        either false = refl

    pub near_yes : (m r : V3) → (g ≡ own → ⊥) → lt b c ≡ true → m ≡ n → r ≡ vadd s m → r ≡ near_by b own u g (Some v) s n
    unfolding near_by is_near
    near_yes m r d q i j = rw (ne_eqb g own d, ← e, ← h, q) (j ∙ ap (vadd s) i)

-- the sum where the own face has a unit vector, and where it has none
module _ (b : Float) (own : ℕ) (n : V3) (hs : List Hit) (k : (Option V3)) (h : k ≡ unit_of n) (r : V3) where
  pub sum_some : (u : V3) → k ≡ Some u → r ≡ sum_near b own u n hs → r ≡ crease_sum (Bound b) own n hs
  unfolding crease_sum near_sum
  sum_some u i q = rw (← h, i) q

  pub sum_none : k ≡ None → r ≡ n → r ≡ crease_sum (Bound b) own n hs
  unfolding crease_sum near_sum
  sum_none i q = rw (← h, i) q

-- one vector or else another
pub else_some : (k : (Option V3)) (u y : V3) → k ≡ Some u → u ≡ or_else k y
unfolding or_else
else_some k u y e = rw e refl

pub else_none : (k : (Option V3)) (y : V3) → k ≡ None → y ≡ or_else k y
unfolding or_else
else_none k y e = rw e refl
