-- The length of a vector whose components are at most 2 in size, and one of them at least a quarter, is finite and above 1e-20.
use mathlib.Core.Path.{◌≡◌, sym, ap, ◌∙◌}
use mathlib.Core.Logic.{◌⊎◌, inl, inr}
use mathlib.Core.Bool.{Bool, true, false, true≢false}
use Prim.Native.Nat.{ℕ, suc, ◌+◌, ◌*◌, ◌^◌, ◌≤◌, ◌<◌}
use native.Mathlib.Nat.{le_trans, le_of_eq, le_of_lt, lt_of_lt_of_le, lt_of_le_of_lt, mul-one, mul_assoc, mul_right_comm, mul-lt-mul_of_pos_right, lt_of_mul-lt-mul_right}
use native.Mathlib.Omega.{arith}
use lib.Dec.{T, ltb→lt, lt→ltb, lit<, lit≤}
use lib.Pow.{pow-add, pow_pos, pow_mono, pow-lt}
use lib.Ieee.{Float, nan, inf, fin, binary32, up, down, add, mul, lt, of_bits}
use lib.Ieee.Fits.{down_pos, and_i, add-fits}
use lib.Ieee.Scale.{finite}
use Rattle.lists.proofs.Squares.{times_up, times_lo, plus_up, more_left, more_right}
use Rattle.math.specs.declared.vector.V3.{V3}
use Rattle.math.specs.SquareRoot.{root_of}
use Rattle.math.specs.Vector.{vdot, tiny, usable}
use Rattle.math.proofs.UnitLaws.{Is, is_finite, square_units, add_units}
use Rattle.math.proofs.Chain.{up_at, lo_at, sum_up, sum_lo, root_lo}
use Rattle.math.proofs.RootUnits.{root_value}

-- ---- 1e-20 in units: 1547425 * 2 ^ 62, which is from 2 ^ 82 up and below 2 ^ 147

scale_by : (nu k c r d : ℕ) → nu * 2 ^ (k + c) ≡ r * d → nu * 2 ^ k * 2 ^ c ≡ r * d
scale_by nu k c r d e = mul_assoc nu (2 ^ k) (2 ^ c) ∙ ap (λ (x : ℕ). nu * x) (sym (pow-add 2 k c)) ∙ e

tiny_by : (E d c : ℕ) → E * 1 * d * 2 ^ c ≡ E * 2 ^ c * d
tiny_by E d c = ap (λ (x : ℕ). x * d * 2 ^ c) (mul-one E) ∙ mul_right_comm E d (2 ^ c)

above_to : (E d nu k c r : ℕ) → E * 1 * d < nu * 2 ^ k → nu * 2 ^ (k + c) ≡ r * d → E * 2 ^ c < r
above_to E d nu k c r h e =
    lt_of_mul-lt-mul_right d
    (lt_of_le_of_lt (le_of_eq (sym (tiny_by E d c))) (lt_of_lt_of_le (mul-lt-mul_of_pos_right h (pow_pos c)) (le_of_eq (scale_by nu k c r d e))))

to_above : (E d nu k c r : ℕ) → 0 < d → E * 2 ^ c < r → nu * 2 ^ (k + c) ≡ r * d → E * 1 * d < nu * 2 ^ k
to_above E d nu k c r D h e =
    lt_of_mul-lt-mul_right (2 ^ c)
    (lt_of_le_of_lt (le_of_eq (tiny_by E d c)) (lt_of_lt_of_le (mul-lt-mul_of_pos_right h D) (le_of_eq (sym (scale_by nu k c r d e)))))

pub above_tiny : (y : Float) (r : ℕ) → Is binary32 y false r → T (lt tiny y) → 2 ^ 82 ≤ r
unfolding lt of_bits
above_tiny nan r h t = absurd h
above_tiny (inf u) r h t = absurd h
above_tiny (fin true n d) r h t = absurd (true≢false h.0)
above_tiny (fin false n d) r h t =
    le_trans (lit≤ {m = 2 ^ 82} {n = 1547425 * 2 ^ 62} tt)
    (le_of_lt (above_to 1547425 (down d) (n * up d) 87 62 r (ltb→lt (1547425 * 1 * down d) (n * up d * 2 ^ 87) t) h.1))

tiny_below : (y : Float) (r : ℕ) → Is binary32 y false r → 2 ^ 147 ≤ r → T (lt tiny y)
unfolding lt of_bits
tiny_below nan r h l = absurd h
tiny_below (inf u) r h l = absurd h
tiny_below (fin true n d) r h l = absurd (true≢false h.0)
tiny_below (fin false n d) r h l =
    lt→ltb (1547425 * 1 * down d) (n * up d * 2 ^ 87)
    (to_above 1547425 (down d) (n * up d) 87 62 r (down_pos d) (lt_of_lt_of_le (lit< {m = 1547425 * 2 ^ 62} {n = 2 ^ 147} tt) l) h.1)

-- ---- a component, its square, and a sum of squares, each with its bounds

pub under : (p j : ℕ) → j < 277 → p ≤ 2 ^ j → p < 2 ^ 277
under p j h l = lt_of_le_of_lt l (pow-lt h)

-- x is n units, and at most 2 in size
pub record AtMostTwo (x : Float) : Type 0 where
  pub s : Bool
  pub n : ℕ
  pub is : Is binary32 x s n
  pub up : n ≤ 2 ^ 150

-- y is p units, at most 2 ^ j, and at least 2 ^ 145 where A holds
record Bounded (y : Float) (j : ℕ) (A : Type 0) : Type 0 where
  p : ℕ
  is : Is binary32 y false p
  up : p ≤ 2 ^ j
  lo : A → 2 ^ 145 ≤ p

square_of : (x : Float) (X : AtMostTwo x) → Bounded (mul binary32 x x) 151 (2 ^ 147 ≤ X.n)
square_of x X =
    let n = X.n in
    let q = square_units binary32 x X.s n X.is in
    let u : q.p ≤ 2 ^ 151 = up_at (n * n) q.p 300 151 q.upper (times_up n n 150 150 X.up X.up) (omega arith) in
    record {
      p = q.p;
      is = q.small (under q.p 151 (omega arith) u);
      up = u;
      lo = λ h. lo_at (n * n) q.p 294 145 q.lower (times_lo n n 147 147 h h) (omega arith);
    }

sum_of : (x y : Float) (j : ℕ) (A B : Type 0) → suc j < 277 → Bounded x j A → Bounded y j B → Bounded (add binary32 x y) (suc j) (A ⊎ B)
sum_of x y j A B l X Y =
    let q = add_units binary32 x y X.p Y.p X.is Y.is in
    let u : q.p ≤ 2 ^ suc j = sum_up (X.p + Y.p) q.p (suc j) q.upper (plus_up X.p Y.p j X.up Y.up) in
    record {
      p = q.p;
      is = q.small (under q.p (suc j) l u);
      up = u;
      lo = λ w. sum_lo (X.p + Y.p) q.p 145 q.lower (elim w [ inl a ↦ more_left X.p Y.p 145 (X.lo a) | inr b ↦ more_right X.p Y.p 145 (Y.lo b) ]);
    }

wider : (x : Float) (j : ℕ) (A : Type 0) → Bounded x j A → Bounded x (suc j) A
wider x j A X = record { p = X.p; is = X.is; up = le_trans X.up (pow_mono (omega arith)); lo = X.lo }

pub usable_of : (v : V3) (X : AtMostTwo v.x) (Y : AtMostTwo v.y) (Z : AtMostTwo v.z)
    → ((2 ^ 147 ≤ X.n) ⊎ (2 ^ 147 ≤ Y.n)) ⊎ (2 ^ 147 ≤ Z.n) → T (usable (root_of (vdot v v)))
usable_of v X Y Z big =
    let xx = mul binary32 v.x v.x in
    let yy = mul binary32 v.y v.y in
    let zz = mul binary32 v.z v.z in
    let xy = add binary32 xx yy in
    let A = 2 ^ 147 ≤ X.n in
    let B = 2 ^ 147 ≤ Y.n in
    let C = 2 ^ 147 ≤ Z.n in
    let d = sum_of xy zz 152 (A ⊎ B) C (omega arith) (sum_of xx yy 151 A B (omega arith) (square_of v.x X) (square_of v.y Y)) (wider zz 151 C (square_of v.z Z)) in
    let l = root_value (vdot v v) d.p (add-fits binary32 xy zz) d.is in
    and_i (finite (root_of (vdot v v))) (lt tiny (root_of (vdot v v))) (is_finite binary32 (root_of (vdot v v)) false l.r l.is)
    (tiny_below (root_of (vdot v v)) l.r l.is (root_lo d.p l.r 145 147 l.lo_by (d.lo big) (omega arith)))
