use mathlib.Core.Path.{refl}
use Prim.Native.Nat.{◌≤◌, ◌-◌}
use native.Mathlib.Omega.{arith}
use Rattle.std.specs.Prelude.{Some, None}
use Rattle.lists.proofs.Named.{named_sub}
use Rattle.lists.proofs.named_by.Goals as goal

pub returns-then-word-eq0 : goal.returns-then-word-eq0
returns-then-word-eq0 c = named_sub c.args.word None (λ h. omega (arith, h, c.if-word-eq0.true))

pub returns : goal.returns
returns c = let h : 1 ≤ c.args.word = omega arith in named_sub c.args.word (Some (c.args.word - 1)) (h, refl)
