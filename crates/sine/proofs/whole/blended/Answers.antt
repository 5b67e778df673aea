use native.Mathlib.Omega.{arith}
use Rattle.sine.proofs.Division.{left_le, right_le}
use Rattle.sine.proofs.whole.blended.Goals as goal

pub overflow_mul-result : goal.overflow_mul-result
overflow_mul-result c = omega (arith, c.from.ensures, left_le c.from.result c.args.w (omega (arith, c.from.ensures)))

pub overflow_mul-result-2 : goal.overflow_mul-result-2
overflow_mul-result-2 c = omega (arith, right_le c.from-2.result c.args.w (omega (arith, c.from-2.ensures)) (omega arith))

pub overflow_add-result : goal.overflow_add-result
overflow_add-result c = omega (arith, left_le c.from.result c.args.w (omega (arith, c.from.ensures)), right_le c.from-2.result c.args.w (omega (arith, c.from-2.ensures)) (omega arith))

pub returns : goal.returns
returns c = rw (c.from.ensures, c.from-2.ensures)
