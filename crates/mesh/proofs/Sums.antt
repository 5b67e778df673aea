-- The sums of the crease rule go on where they stopped: what a loop over the faces at a point needs.
use mathlib.Core.Path.{◌≡◌, refl}
use mathlib.Core.Bool.{cond}
use mathlib.Core.List.{List, [], ◌∷◌, ◌++◌}
use Prim.Native.Nat.{ℕ}
use borrow.Author.Tests.{eq-eqb, ne_eqb}
use lib.Ieee.{Float}
use Rattle.math.specs.declared.vector.V3.{V3}
use Rattle.math.specs.Vector.{vadd, unit_of}
use Rattle.mesh.specs.Normals.{Hit, sum_all, is_near, near_by, near_step, sum_near}

pub all_append : (s : V3) (hs ks : List Hit) → sum_all s (hs ++ ks) ≡ sum_all (sum_all s hs) ks
unfolding sum_all
all_append s [] ks = refl
all_append s (h ∷ hs) ks = all_append (vadd s h.normal) hs ks

pub near_append : (b : Float) (own : ℕ) (u s : V3) (hs ks : List Hit) → sum_near b own u s (hs ++ ks) ≡ sum_near b own u (sum_near b own u s hs) ks
unfolding sum_near
near_append b own u s [] ks = refl
near_append b own u s (h ∷ hs) ks = near_append b own u (near_step b own u s h) hs ks

-- the face itself adds nothing; another one its normal, if it is near
module _ (b : Float) (own : ℕ) (u s : V3) (h : Hit) where
  pub step_own : h.face ≡ own → near_step b own u s h ≡ s
  unfolding near_step near_by
  step_own e = rw (eq-eqb h.face own e)

  pub step_other : (h.face ≡ own → ⊥) → near_step b own u s h ≡ cond (is_near b u (unit_of h.normal)) (vadd s h.normal) s
  unfolding near_step near_by
  step_other e = rw (ne_eqb h.face own e)
