use mathlib.Core.Path.{refl}
use native.Mathlib.Omega.{arith}
use Rattle.sine.specs.SinCos.{fraction_of}
use Rattle.sine.proofs.Number.{cast_ok}
use Rattle.sine.proofs.whole.fraction.Goals as goal

pub int_to_float-result : goal.int_to_float-result
int_to_float-result c = cast_ok c.args.t (omega arith)

pub returns : goal.returns
unfolding fraction_of
returns c = refl
