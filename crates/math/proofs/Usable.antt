-- The unit vector of a vector has a length that is finite and above 1e-20: no component passes 2, and the largest is a quarter at least.
use mathlib.Core.Logic.{inl, inr}
use mathlib.Core.Bool.{Bool, false, ◌&&◌}
use Prim.Native.Nat.{ℕ, ◌+◌, ◌*◌, ◌^◌, ◌≤◌, ◌<◌}
use native.Mathlib.Nat.{le_refl, lt_of_lt_of_le}
use native.Mathlib.Omega.{arith}
use lib.Dec.{T}
use lib.Pow.{pow_pos}
use lib.Ieee.{Float, binary32, add, mul, div, lt, fits, unlike, of_bits}
use lib.Ieee.Fits.{and_l, and_r, add-fits}
use lib.Ieee.Scale.{finite}
use Rattle.lists.proofs.Squares.{more_left, more_right, largest}
use Rattle.math.specs.declared.vector.V3.{V3}
use Rattle.math.specs.SquareRoot.{root_of}
use Rattle.math.specs.Vector.{vdot, vscale, one_f, tiny, fits3, usable}
use Rattle.math.proofs.Grid.{Rounded}
use Rattle.math.proofs.UnitLaws.{Is, in_units, square_units, add_units, mul_units, inv_units, rounded_under, add_finite, mul_finite}
use Rattle.math.proofs.Chain.{sum_lo, inv_up, component_up, component_lo}
use Rattle.math.proofs.RootUnits.{RootAt, root_value, root_finite}
use Rattle.math.proofs.Length.{AtMostTwo, above_tiny, under, usable_of}

-- ---- all that is known of a vector whose length is finite, in units: its components and their squares, the two sums, and the root

record Squared (x : Float) : Type 0 where
  s : Bool
  a : ℕ
  is : Is binary32 x s a
  q : Rounded binary32 false (a * a) (2 ^ 149) (mul binary32 x x)
  fine : q.p < 2 ^ 277

squared : (x : Float) → T (fits binary32 x) → T (finite (mul binary32 x x)) → Squared x
squared x f t =
    let u = in_units binary32 x f (mul_finite binary32 x x t).0 in
    let q = square_units binary32 x u.0 u.1 u.2 in
    record { s = u.0; a = u.1; is = u.2; q = q; fine = rounded_under binary32 false (u.1 * u.1) (2 ^ 149) (mul binary32 x x) q t }

record Measured (v : V3) : Type 0 where
  x : Squared v.x
  y : Squared v.y
  z : Squared v.z
  e : Rounded binary32 false (x.q.p + y.q.p) 1 (add binary32 (mul binary32 v.x v.x) (mul binary32 v.y v.y))
  d : Rounded binary32 false (e.p + z.q.p) 1 (vdot v v)
  l : RootAt d.p (root_of (vdot v v))

measure : (v : V3) → T (fits3 v) → T (finite (root_of (vdot v v))) → Measured v
measure v fit fine =
    let xx = mul binary32 v.x v.x in
    let yy = mul binary32 v.y v.y in
    let zz = mul binary32 v.z v.z in
    let xy = add binary32 xx yy in
    let fx = fits binary32 v.x in
    let fy = fits binary32 v.y in
    let fz = fits binary32 v.z in
    let f0 : T (finite (vdot v v)) = root_finite (vdot v v) fine in
    let f1 = add_finite binary32 xy zz f0 in
    let f2 = add_finite binary32 xx yy f1.0 in
    let sx = squared v.x (and_l fx fy (and_l (fx && fy) fz fit)) f2.0 in
    let sy = squared v.y (and_r fx fy (and_l (fx && fy) fz fit)) f2.1 in
    let sz = squared v.z (and_r (fx && fy) fz fit) f1.1 in
    let se = add_units binary32 xx yy sx.q.p sy.q.p (sx.q.small sx.fine) (sy.q.small sy.fine) in
    let sd = add_units binary32 xy zz se.p sz.q.p (se.small (rounded_under binary32 false (sx.q.p + sy.q.p) 1 xy se f1.0)) (sz.q.small sz.fine) in
    record {
      x = sx;
      y = sy;
      z = sz;
      e = se;
      d = sd;
      l = root_value (vdot v v) sd.p (add-fits binary32 xy zz) (sd.small (rounded_under binary32 false (se.p + sz.q.p) 1 (vdot v v) sd f0));
    }

-- ---- the components of the unit vector

-- 1 / y, with 1 as the code writes it
one_over : (y : Float) (r : ℕ) → Is binary32 y false r → 0 < r → Rounded binary32 false (2 ^ 149 * 2 ^ 149) r (div binary32 one_f y)
unfolding of_bits
one_over y r h R = inv_units binary32 y r h R

pub usable_again : (v : V3) → T (fits3 v) → T (usable (root_of (vdot v v)))
    → let u = vscale v (div binary32 one_f (root_of (vdot v v))) in T (usable (root_of (vdot u u)))
usable_again v fit ok =
    let y = root_of (vdot v v) in
    let k = div binary32 one_f y in
    let M : Measured v = measure v fit (and_l (finite y) (lt tiny y) ok) in
    let D = M.d.p in
    let r = M.l.r in
    let r82 : 2 ^ 82 ≤ r = above_tiny y r M.l.is (and_r (finite y) (lt tiny y) ok) in
    let q = one_over y r M.l.is (lt_of_lt_of_le (pow_pos 82) r82) in
    let iq : Is binary32 k false q.p = q.small (under q.p 216 (omega arith) (inv_up r q.p 82 216 q.upper r82 (omega arith))) in
    let times : (x : Float) (X : Squared x) → Rounded binary32 (unlike X.s false) (X.a * q.p) (2 ^ 149) (mul binary32 x k) =
    λ x X. mul_units binary32 x k X.s false X.a q.p X.is iq in
    let part : (x : Float) (X : Squared x) → ((j : ℕ) → 2 ^ j ≤ X.q.p → 2 ^ j ≤ D) → AtMostTwo (mul binary32 x k) =
    λ x X reach.
    let u = times x X in
    let b : u.p ≤ 2 ^ 150 = component_up X.a X.q.p D r q.p u.p X.q.lower X.fine reach M.l.lo_by r82 q.upper u.upper in
    record { s = unlike X.s false; n = u.p; is = u.small (under u.p 150 (omega arith) b); up = b } in
    let from-e : (j : ℕ) → 2 ^ j ≤ M.e.p → 2 ^ j ≤ D = λ j h. sum_lo (M.e.p + M.z.q.p) D j M.d.lower (more_left M.e.p M.z.q.p j h) in
    let from-xy : (j : ℕ) → 2 ^ j ≤ M.x.q.p + M.y.q.p → 2 ^ j ≤ D = λ j h. from-e j (sum_lo (M.x.q.p + M.y.q.p) M.e.p j M.e.lower h) in
    let low : (x : Float) (X : Squared x) → M.x.a ≤ X.a → M.y.a ≤ X.a → M.z.a ≤ X.a → 2 ^ 147 ≤ (times x X).p =
    λ x X A B C.
    component_lo M.x.a M.y.a M.z.a M.x.q.p M.y.q.p M.z.q.p M.e.p D r q.p X.a X.q.p (times x X).p A B C
    M.x.q.upper M.y.q.upper M.z.q.upper M.e.upper M.d.upper M.l.up_by r82 X.q.lower X.fine q.lower (times x X).lower in
    usable_of (vscale v k)
    (part v.x M.x (λ j h. from-xy j (more_left M.x.q.p M.y.q.p j h)))
    (part v.y M.y (λ j h. from-xy j (more_right M.x.q.p M.y.q.p j h)))
    (part v.z M.z (λ j h. sum_lo (M.e.p + M.z.q.p) D j M.d.lower (more_right M.e.p M.z.q.p j h)))
    (elim (largest M.x.a M.y.a M.z.a) [
      | inl h ↦ inl (inl (low v.x M.x (le_refl M.x.a) h.0 h.1))
      | inr g ↦ elim g [
        | inl h ↦ inl (inr (low v.y M.y h.0 (le_refl M.y.a) h.1))
        | inr h ↦ inr (low v.z M.z h.0 h.1 (le_refl M.z.a))
      ]
    ])
