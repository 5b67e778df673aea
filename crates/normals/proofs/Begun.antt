-- The normals of the corners from the first on, and what they are made of: the sum at a corner, and its unit vector.
use mathlib.Core.Path.{◌≡◌, refl, sym, ap, ◌∙◌}
use mathlib.Core.List.{List, ◌++◌}
use Prim.Native.Nat.{ℕ, ◌+◌, ◌*◌, ◌≤◌, ◌<◌}
use native.Mathlib.Omega.{arith}
use lib.ListN.{length, drop}
use lib.Ieee.{Float}
use Rattle.math.specs.declared.vector.V3.{V3}
use Rattle.std.specs.Prelude.{Option}
use Rattle.std.specs.Prelude.{Some, None}
use Rattle.math.specs.Vector.{y_axis, unit_of}
use Rattle.block.specs.declared.crease.CreaseRule.{CreaseRule}
use Rattle.block.specs.declared.crease.CreaseRule.TheVariants.{Own, Every}
use Rattle.lists.specs.Loops.{tab}
use Rattle.lists.specs.Parts.{spliced}
use Rattle.mesh.specs.Normals.{crease_sum, or_else}
use Rattle.tables.specs.declared.layout.Plan.{Plan}
use Rattle.tables.specs.Soups.{gather_in, owner_in}
use Rattle.normals.specs.Rows.{normal_in, every_at, Summed}
use Rattle.normals.specs.Written.{normal_at, corner_normal_in, corner_sum_in, three, spread, Begun}
use Rattle.normals.proofs.Fills.{spread_none, spread_step, made_length}
use Rattle.normals.proofs.Floats.{summed_put}

-- a unit vector or else another is the same with itself in between
or_twice : (k : (Option V3)) (y : V3) → or_else k y ≡ or_else k (or_else k y)
unfolding or_else
or_twice (Some u) y = refl
or_twice None y = refl

module _ (w : List ℕ) (t : Plan) (c own : ℕ) (eo : own ≡ owner_in w t c) where
  pub normal_is : (rule : CreaseRule) (s : (Option V3)) (v : V3) → s ≡ unit_of (corner_sum_in w t rule c) → v ≡ or_else s (or_else (unit_of (normal_in w t own)) y_axis) → v ≡ corner_normal_in w t rule c
  unfolding corner_normal_in normal_at corner_sum_in
  normal_is rule s v es ev = ev ∙ λ i. or_else (es i) (or_else (unit_of (normal_in w t (eo i))) y_axis)

  -- where the sum is the own face's normal
  pub alone_is : (rule : CreaseRule) (v : V3) → corner_sum_in w t rule c ≡ normal_in w t own → v ≡ or_else (unit_of (normal_in w t own)) y_axis → v ≡ corner_normal_in w t rule c
  alone_is rule v e ev = normal_is rule (unit_of (normal_in w t own)) v (ap unit_of (sym e)) (ev ∙ or_twice (unit_of (normal_in w t own)) y_axis)

  pub own_is : (v : V3) → v ≡ or_else (unit_of (normal_in w t own)) y_axis → v ≡ corner_normal_in w t Own c
  unfolding corner_sum_in crease_sum
  own_is v ev = alone_is Own v (ap (normal_in w t) (sym eo)) ev

  pub every_is : (p : ℕ) (s : (Option V3)) (v : V3) → p ≡ gather_in w t c → s ≡ every_at w t p → v ≡ or_else s (or_else (unit_of (normal_in w t own)) y_axis) → v ≡ corner_normal_in w t Every c
  unfolding corner_sum_in crease_sum
  every_is p s v ep es ev = normal_is Every s v (es ∙ ap (every_at w t) ep) ev

-- ---- a turn of the loops that make them in order

module _ {w : List ℕ} {t : Plan} {rule : CreaseRule} (d : List Float) (l : 3 * t.count ≤ length d) where
  pub begun_none : Summed w t rule d → Begun d d w t rule 0
  begun_none S = record { within = omega arith; is = spread_none _ d 0; size = refl; summed = S }

  pub begun_next : (e : List Float) {e' : List Float} (n : ℕ) (v : V3) → n < t.count → Begun d e w t rule n → v ≡ corner_normal_in w t rule n → e' ≡ spliced e (3 * n) (three v) → Begun d e' w t rule (n + 1)
  begun_next e {e'} n v h B ev q =
      let f = corner_normal_in w t rule in
      let z : n ≡ 0 + n = omega arith in
      let i = q ∙ spread_step f d e n 0 v B.is (ev ∙ ap f z) in
      record {
        within = omega arith;
        is = i;
        size = made_length f d e' (n + 1) 0 i (omega arith);
        summed = summed_put e n v B.summed h (omega (arith, B.size)) q;
      }

-- by what the rule is
pub by_rule : (d : List Float) {e : List Float} (w : List ℕ) (t : Plan) {rule r : CreaseRule} → rule ≡ r → e ≡ spread (tab (corner_normal_in w t r) t.count 0) ++ drop (3 * t.count) d → e ≡ spread (tab (corner_normal_in w t rule) t.count 0) ++ drop (3 * t.count) d
by_rule d w t q i = rw q i
