use mathlib.Core.Path.{◌≡◌}
use mathlib.Core.Bool.{false}
use Prim.Native.Nat.{ℕ, ◌<◌}
use Rattle.polygon.specs.Memo.{xy, inside, hits}
use Rattle.polygon.proofs.memo.Field.scan_blocks.Given as goal

-- None before it is left and lies in the triangle.
abbrev pub invariant-loop-k : goal.invariant-loop-k
invariant-loop-k l = (j : ℕ) → j < l.k → hits l.self.left.now (inside (xy l.self.p.now) l.self.t.a l.self.t.b l.self.t.c) j ≡ false
