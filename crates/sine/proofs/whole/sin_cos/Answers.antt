use mathlib.Core.Path.{◌≡◌, sym, ◌∙◌, subst}
use mathlib.Core.Bool.{Bool, true, not}
use native.Mathlib.Omega.{arith}
use lib.Dec.{T}
use lib.Ieee.{Float, binary32, fits}
use Rattle.sine.specs.SinCos.{sin_cos_of}
use Rattle.sine.proofs.Promises.{in_range_lem, out_of_range, none_in_range}
use Rattle.sine.proofs.whole.sin_cos.Goals as goal

-- `sine::sin_cos` meets its contract. Assumes nothing.
fitting : (x : Float) → fits binary32 x ≡ true → T (fits binary32 x)
fitting x e = subst T (sym e) tt

pub returns-then-is_nan : goal.returns-then-is_nan
unfolding sin_cos_of
returns-then-is_nan c = rw (none_in_range c.args.x (sym c.is_nan.ensures.value ∙ c.if-is_nan.true))

pub float_to_bits-b : goal.float_to_bits-b
float_to_bits-b c = subst (λ (t : Bool). T (not t)) (sym (sym c.is_nan.ensures.value ∙ c.if-is_nan.false)) tt

pub returns-then-b-gt1149239296 : goal.returns-then-b-gt1149239296
unfolding sin_cos_of
returns-then-b-gt1149239296 c = rw (out_of_range c.args.x (fitting c.args.x c.well_formed.0.1) (omega arith))

pub returns : goal.returns
unfolding sin_cos_of
returns c = rw (in_range_lem c.args.x (fitting c.args.x c.well_formed.0.1) (omega arith)) c.inside.ensures
