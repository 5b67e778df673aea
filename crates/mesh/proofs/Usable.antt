-- A generated normal can be scaled again, so mending never replaces it.
use mathlib.Core.Path.{◌≡◌, refl, sym, subst}
use mathlib.Core.Bool.{Bool, true, false, cond, ◌&&◌}
use mathlib.Core.List.{List, [], ◌∷◌}
use Prim.Native.Nat.{ℕ}
use native.Mathlib.Omega.{arith}
use borrow.Author.Tests.{eqb-true, eqb-false}
use lib.Dec.{T, eqb}
use lib.Ieee.{Float, binary32, of_bits, div, neg, fits}
use lib.Ieee.Bits.{of_bits-to_bits, of_bits-fits}
use lib.Ieee.Fits.{and_i, and_l, and_r, add-fits}
use Rattle.bits.specs.declared.Words3.{Words3}
use Rattle.math.specs.declared.vector.V3.{V3}
use Rattle.std.specs.Prelude.{Option}
use Rattle.std.specs.Prelude.{Some, None}
use Rattle.math.specs.Vector.{v3, zero_f, one_f, y_axis, fits3, vadd, vscale, vlen, usable, unit_of}
use Rattle.math.proofs.Normal.{unit_again, unit_up, sum_fits, scale_fits}
use Rattle.polygon.specs.Facing.{edge_sum, newell_from, newell}
use Rattle.polygon.specs.Plane.{handed}
use Rattle.block.specs.declared.crease.CreaseRule.{CreaseRule}
use Rattle.block.specs.declared.crease.CreaseRule.TheVariants.{Own, Every, Bound}
use Rattle.mesh.specs.Words.{floats, bits}
use Rattle.mesh.specs.Soup.{Face, Frame}
use Rattle.mesh.specs.Normals.{outline, facing, Hit, incident, sum_all, is_near, near_step, sum_near, near_sum, crease_sum, or_else, generated}
use Rattle.mesh.specs.Mend.{Usable, renorm, mend_by}
use Rattle.mesh.proofs.Sums.{step_own, step_other}

-- ---- what the sums make fits f32

fits_of : (x y z : Float) → T (fits binary32 x) → T (fits binary32 y) → T (fits binary32 z) → T (fits3 (v3 x y z))
fits_of x y z p q r = and_i (fits binary32 x && fits binary32 y) (fits binary32 z) (and_i (fits binary32 x) (fits binary32 y) p q) r

words_fit : (a b c : ℕ) → T (fits3 (v3 (of_bits binary32 a) (of_bits binary32 b) (of_bits binary32 c)))
words_fit a b c = fits_of (of_bits binary32 a) (of_bits binary32 b) (of_bits binary32 c) (of_bits-fits binary32 a) (of_bits-fits binary32 b) (of_bits-fits binary32 c)

edge_fits : (n a b : V3) → T (fits3 (edge_sum n a b))
edge_fits n a b = fits_of _ _ _ (add-fits binary32 n.x _) (add-fits binary32 n.y _) (add-fits binary32 n.z _)

newell_from_fits : (first n : V3) (ps : List V3) → T (fits3 n) → T (fits3 (newell_from first n ps))
unfolding newell_from
newell_from_fits first n [] h = h
newell_from_fits first n (a ∷ []) h = edge_fits n a first
newell_from_fits first n (a ∷ b ∷ r) h = newell_from_fits first (edge_sum n a b) (b ∷ r) (edge_fits n a b)

newell_fits : (ps : List V3) → T (fits3 (newell ps))
unfolding newell
newell_fits [] = words_fit 0 0 0
newell_fits (a ∷ r) = newell_from_fits a (v3 zero_f zero_f zero_f) (a ∷ r) (words_fit 0 0 0)

handed_fits : (b : Bool) (n : V3) → T (fits3 n) → T (fits3 (handed b n))
unfolding handed
handed_fits true n h = h
handed_fits false n h = scale_fits n (neg one_f)

pub facing_fits : (F : Frame) (f : Face) → T (fits3 (facing F f))
unfolding facing
facing_fits F f = handed_fits _ (newell (outline F f)) (newell_fits (outline F f))

sum_all_fits : (s : V3) (hs : List Hit) → T (fits3 s) → T (fits3 (sum_all s hs))
unfolding sum_all
sum_all_fits s [] h = h
sum_all_fits s (k ∷ hs) h = sum_all_fits (vadd s k.normal) hs (sum_fits s k.normal)

either_fits : (t : Bool) (x y : V3) → T (fits3 x) → T (fits3 y) → T (fits3 (cond t x y))
either_fits true x y p q = p
either_fits false x y p q = q

step_fits : (b : Float) (own : ℕ) (u s : V3) (k : Hit) → T (fits3 s) → T (fits3 (near_step b own u s k))
step_fits b own u s k h = go (eqb k.face own) refl
  where
    go : (t : Bool) → eqb k.face own ≡ t → T (fits3 (near_step b own u s k))
    go true t = subst (λ (v : V3). T (fits3 v)) (sym (step_own b own u s k (eqb-true k.face own t))) h
    go false t =
        subst (λ (v : V3). T (fits3 v)) (sym (step_other b own u s k (eqb-false k.face own t)))
        (either_fits (is_near b u (unit_of k.normal)) (vadd s k.normal) s (sum_fits s k.normal) h)

sum_near_fits : (b : Float) (own : ℕ) (u s : V3) (hs : List Hit) → T (fits3 s) → T (fits3 (sum_near b own u s hs))
unfolding sum_near
sum_near_fits b own u s [] h = h
sum_near_fits b own u s (k ∷ hs) h = sum_near_fits b own u (near_step b own u s k) hs (step_fits b own u s k h)

near_sum_fits : (b : Float) (own : ℕ) (n : V3) (o : (Option V3)) (hs : List Hit) → T (fits3 n) → T (fits3 (near_sum b own n o hs))
unfolding near_sum
near_sum_fits b own n (Some u) hs h = sum_near_fits b own u n hs h
near_sum_fits b own n None hs h = h

crease_sum_fits : (r : CreaseRule) (own : ℕ) (n : V3) (hs : List Hit) → T (fits3 n) → T (fits3 (crease_sum r own n hs))
unfolding crease_sum
crease_sum_fits Own own n hs h = h
crease_sum_fits Every own n hs h = sum_all_fits (v3 zero_f zero_f zero_f) hs (words_fit 0 0 0)
crease_sum_fits (Bound b) own n hs h = near_sum_fits b own n (unit_of n) hs h

-- ---- fits, and is usable: what a vector has that was scaled to length 1, and (0, 1, 0)

pub record Sound (v : V3) : Type 0 where
  pub fit : T (fits3 v)
  pub long : T (usable (vlen v))

unit_long : (a w : V3) → unit_of a ≡ Some w → T (usable (vlen a))
unfolding unit_of
unit_long a w e = go (usable (vlen a)) e
  where
    go : (b : Bool) → cond b (Some (vscale a (div binary32 one_f (vlen a)))) None ≡ Some w → T b
    go true e = tt
    go false e = absurd (let z : ◌≡◌ {A = ℕ} 0 1 = cc in omega arith)

unit_usable : (a u : V3) → T (fits3 a) → unit_of a ≡ Some u → Sound u
unit_usable a u h e = let again = unit_again a u h e in record { fit = again.0; long = unit_long u again.1.0 again.1.1 }

up_usable : Sound y_axis
up_usable = record { fit = words_fit 0 0x3f80_0000 0; long = unit_long y_axis y_axis unit_up }

else_usable : (o : (Option V3)) (d : V3) → ((u : V3) → o ≡ Some u → Sound u) → Sound d → Sound (or_else o d)
unfolding or_else
else_usable (Some u) d h k = h u refl
else_usable None d h k = k

pub generated_usable : (F : Frame) (fs : List Face) (num : ℕ) (f : Face) (p : ℕ) → Sound (generated F fs num f p)
unfolding generated
generated_usable F fs num f p =
    let n : V3 = facing F f in
    let s : V3 = crease_sum F.crease num n (incident F fs p) in
    let h : T (fits3 n) = facing_fits F f in
    else_usable (unit_of s) (or_else (unit_of n) y_axis) (λ u. unit_usable s u (crease_sum_fits F.crease num n (incident F fs p) h))
    (else_usable (unit_of n) y_axis (λ u. unit_usable n u h) up_usable)

-- ---- as words

pub floats_bits : (v : V3) → T (fits3 v) → floats (bits v) ≡ v
floats_bits v h =
    let xy : T (fits binary32 v.x && fits binary32 v.y) = and_l (fits binary32 v.x && fits binary32 v.y) (fits binary32 v.z) h in
    λ i. record {
      x = of_bits-to_bits binary32 v.x (and_l (fits binary32 v.x) (fits binary32 v.y) xy) i;
      y = of_bits-to_bits binary32 v.y (and_r (fits binary32 v.x) (fits binary32 v.y) xy) i;
      z = of_bits-to_bits binary32 v.z (and_r (fits binary32 v.x && fits binary32 v.y) (fits binary32 v.z) h) i;
    }

pub bits_usable : (v : V3) → Sound v → Usable (bits v)
bits_usable v u = subst (λ (w : V3). T (usable (vlen w))) (sym (floats_bits v u.fit)) u.long

-- a usable normal is never replaced
pub mend_usable : (n : Words3) (other : V3) → Usable n → mend_by (unit_of (floats n)) n other ≡ renorm n
unfolding mend_by unit_of
mend_usable n other u = go (usable (vlen (floats n))) u
  where
    go : (b : Bool) → T b → mend_by (cond b (Some (vscale (floats n) (div binary32 one_f (vlen (floats n))))) None) n other ≡ renorm n
    go true t = refl
    go false t = absurd t
