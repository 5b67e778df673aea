-- Slices and stacks within their bounds.
use mathlib.Core.Path.{◌≡◌, refl}
use mathlib.Core.Bool.{Bool, true, false, cond}
use Prim.Native.Nat.{ℕ, ◌≤◌}
use native.Mathlib.Omega.{arith}
use borrow.Author.Tests.{ltb-false}
use lib.Dec.{ltb}
use Rattle.parts.specs.Sizes.{held_to}

pub held_between : (n least : ℕ) → least ≤ 1024 → (least ≤ held_to n least) × (held_to n least ≤ 1024)
unfolding held_to
held_between n least h = by (ltb n least) (ltb 1024 n) refl refl
  where
    by : (a b : Bool) → ltb n least ≡ a → ltb 1024 n ≡ b → (least ≤ cond (ltb n least) least (cond (ltb 1024 n) 1024 n)) × (cond (ltb n least) least (cond (ltb 1024 n) 1024 n) ≤ 1024)
    by true b e f = rw e (omega arith, h)
    by false true e f = rw (e, f) (h, omega arith)
    by false false e f = rw (e, f) (ltb-false n least e, ltb-false 1024 n f)
