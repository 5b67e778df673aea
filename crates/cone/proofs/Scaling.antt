-- A length that is known: that of every vector whose square of the length has the same bits.
use mathlib.Core.Path.{◌≡◌, ap, ◌∙◌, subst}
use Prim.Native.Nat.{ℕ}
use lib.Ieee.{Float, binary32, add, mul, of_bits, to_bits}
use lib.Ieee.Bits.{of_bits-to_bits}
use lib.Ieee.Fits.{add-fits}
use Rattle.math.specs.declared.vector.V3.{V3}
use Rattle.std.specs.Prelude.{Option, Some, IfSome, unwrap_or}
use Rattle.math.specs.SquareRoot.{root_of}
use Rattle.math.specs.Vector.{vdot, vlen, unit_by, unit_of, y_axis}
use Rattle.mesh.specs.Normals.{or_else}
use Rattle.mesh.proofs.Options.{unwrap_or_is}

pub length_is : (v : V3) (w : ℕ) (o : Option Float) → w ≡ to_bits binary32 (vdot v v) → IfSome o (λ l. l ≡ root_of (of_bits binary32 w)) → IfSome o (λ l. l ≡ vlen v)
unfolding vlen
length_is v w o e h =
    let fit = add-fits binary32 (add binary32 (mul binary32 v.x v.x) (mul binary32 v.y v.y)) (mul binary32 v.z v.z) in
    let back : of_bits binary32 w ≡ vdot v v = ap (of_bits binary32) e ∙ of_bits-to_bits binary32 (vdot v v) fit in
    subst (λ (x : Float). IfSome o (λ l. l ≡ root_of x)) back h

-- a unit vector, or the Y axis
pub or_axis : {r : V3} {o u : Option V3} → r ≡ unwrap_or o y_axis → o ≡ u → r ≡ or_else u y_axis
or_axis e q = e ∙ unwrap_or_is _ _ ∙ ap (λ (u : Option V3). or_else u y_axis) q

pub known_unit : (v : V3) {r : V3} {u : Option V3} (o : Option Float) (l : Float) → o ≡ Some l → IfSome o (λ x. x ≡ vlen v) → u ≡ unit_by l v → r ≡ unwrap_or u y_axis → r ≡ or_else (unit_of v) y_axis
unfolding unit_of
known_unit v o l is k e r =
    let long : l ≡ vlen v = subst (λ (o : Option Float). IfSome o (λ x. x ≡ vlen v)) is k in
    or_axis r (e ∙ ap (λ (x : Float). unit_by x v) long)
