use mathlib.Core.Path.{◌∙◌, ap}
use Prim.Native.Nat.{ℕ, ◌+◌, ◌*◌, ◌/◌, ◌%◌, ◌^◌, ◌≤◌}
use native.Mathlib.Omega.{arith}
use Rattle.math.specs.SquareRoot.{isqrt, joined}
use Rattle.math.specs.Digit.{tall}
use Rattle.math.proofs.RootDigits.{root_small}
use Rattle.math.proofs.Place.{bits_high}
use Rattle.math.proofs.square_root.with_root.Goals as goal

small : (b : ℕ) → isqrt 25 (tall b) ≤ 33554430
small b = root_small (b / 2 ^ 23 + 23) (b % 2 ^ 23 + 2 ^ 23) (omega arith) (omega arith)

pub overflow_add-result-3 : goal.overflow_add-result-3
overflow_add-result-3 c = omega (arith, small c.args.b, c.requires.1)

pub returns : goal.returns
unfolding joined
returns c = ap (λ (q : ℕ). ((c.args.b / 2 ^ 23 + 23) / 2 + 51) * 2 ^ 23 + (q + 1) / 2) c.requires.1 ∙ bits_high c.args.b c.requires.0.0
