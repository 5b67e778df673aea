use mathlib.Core.Path.{◌≡◌, ◌∙◌, ap}
use Prim.Native.Nat.{ℕ, ◌+◌, ◌*◌, ◌/◌, ◌%◌, ◌^◌, ◌≤◌}
use native.Mathlib.Omega.{arith}
use Rattle.math.specs.SquareRoot.{isqrt, joined}
use Rattle.math.proofs.RootDigits.{root_small}
use Rattle.math.proofs.square_root.join_root.Goals as goal

root : (c : goal.After-int_root) → c.int_root.result ≡ isqrt 25 (c.args.m * 2 ^ (25 + c.args.g % 2))
root c = c.int_root.ensures ∙ ap (isqrt 25) c.shifted.ensures

small : (c : goal.After-int_root) → isqrt 25 (c.args.m * 2 ^ (25 + c.args.g % 2)) ≤ 33554430
small c = root_small c.args.g c.args.m c.requires.1 c.requires.2

pub overflow_add-result-2 : goal.overflow_add-result-2
overflow_add-result-2 c = omega (arith, root c, small c)

pub returns : goal.returns
unfolding joined
returns c = ap (λ (q : ℕ). (c.args.g / 2 + 51) * 2 ^ 23 + (q + 1) / 2) (root c)
