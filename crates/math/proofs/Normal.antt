-- What is normalised can be normalised again, and (0, 1, 0) is its own unit vector. What the vector operations make fits f32.
use mathlib.Core.Path.{◌≡◌, refl, sym, ◌∙◌, subst}
use mathlib.Core.Bool.{Bool, true, false, cond, ◌&&◌}
use Prim.Native.Nat.{ℕ}
use native.Mathlib.Omega.{arith}
use lib.Dec.{T}
use lib.Ieee.{Float, binary32, of_bits, add, mul, div, fits, lt}
use lib.Ieee.Fits.{and_i, add-fits, mul-fits}
use Rattle.math.specs.declared.vector.V3.{V3}
use Rattle.std.specs.Prelude.{Some, None}
use Rattle.math.specs.SquareRoot.{root_of}
use Rattle.math.specs.Vector.{v3, one_f, y_axis, fits3, vadd, vscale, vdot, vlen, usable, unit_by, unit_of}
use Rattle.math.proofs.Usable.{usable_again}

-- ---- what is made fits

all_fit : (x y z : Float) → T (fits binary32 x) → T (fits binary32 y) → T (fits binary32 z) → T (fits3 (v3 x y z))
all_fit x y z p q r = and_i (fits binary32 x && fits binary32 y) (fits binary32 z) (and_i (fits binary32 x) (fits binary32 y) p q) r

pub sum_fits : (a b : V3) → T (fits3 (vadd a b))
sum_fits a b = all_fit _ _ _ (add-fits binary32 a.x b.x) (add-fits binary32 a.y b.y) (add-fits binary32 a.z b.z)

pub scale_fits : (a : V3) (s : Float) → T (fits3 (vscale a s))
scale_fits a s = all_fit _ _ _ (mul-fits binary32 a.x s) (mul-fits binary32 a.y s) (mul-fits binary32 a.z s)

-- ---- normalising

unit_is : (a : V3) → unit_of a ≡ unit_by (root_of (vdot a a)) a
unfolding unit_of vlen
unit_is a = refl

picked : (b : Bool) (x u : V3) → cond b (Some x) None ≡ Some u → T b × (x ≡ u)
picked true x u e = (tt, cc)
picked false x u e = absurd (let z : ◌≡◌ {A = ℕ} 0 1 = cc in omega arith)

picks : (b : Bool) (x : V3) → T b → cond b (Some x) None ≡ Some x
picks true x t = refl
picks false x t = absurd t

-- a times the reciprocal of its length
abbrev unit_vector : V3 → V3
unit_vector a = vscale a (div binary32 one_f (root_of (vdot a a)))

-- FORMAT 9.3: the unit vector of a vector fits f32, and has a unit vector itself
pub unit_again : (a u : V3) → T (fits3 a) → unit_of a ≡ Some u → T (fits3 u) × ((w : V3) × (unit_of u ≡ Some w))
unit_again a u fit e =
    let h = picked (usable (root_of (vdot a a))) (unit_vector a) u (sym (unit_is a) ∙ e) in
    let again : T (usable (root_of (vdot u u))) = subst (λ (w : V3). T (usable (root_of (vdot w w)))) h.1 (usable_again a fit h.0) in (
      subst (λ (w : V3). T (fits3 w)) h.1 (scale_fits a (div binary32 one_f (root_of (vdot a a)))),
      (unit_vector u, unit_is u ∙ picks (usable (root_of (vdot u u))) (unit_vector u) again),
    )

pub unit_up : unit_of y_axis ≡ Some y_axis
unfolding unit_of root_of of_bits add mul div lt
unit_up = refl
