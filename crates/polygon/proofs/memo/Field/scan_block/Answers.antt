use mathlib.Core.Path.{◌∙◌}
use mathlib.Core.Logic.{⊎_elim}
use Prim.Native.Nat.{◌≤◌, ◌<◌}
use native.Mathlib.Omega.{arith}
use Rattle.lists.proofs.Numbers.{le_or_lt}
use Rattle.polygon.specs.Memo.{xy, inside, hits}
use Rattle.lists.proofs.Found.{none_here, last_block}
use Rattle.polygon.proofs.memo.Field.scan_block.Goals as goal

pub returns-then-not-is_block_near : goal.returns-then-not-is_block_near
returns-then-not-is_block_near c =
    none_here (hits c.args.self.now.left.now (inside (xy c.args.self.now.p.now) c.args.self.now.t.a c.args.self.now.t.b c.args.self.now.t.c)) c.args.to
    (λ j l. ⊎_elim (λ (e : c.args.from ≤ j). c.is_block_near.ensures c.if-not-is_block_near.true j (omega arith) (omega arith)) (λ (e : j < c.args.from). c.requires.3 j e) (le_or_lt c.args.from j))

pub returns : goal.returns
returns c =
    c.block_hit.ensures
    ∙ last_block (hits c.args.self.now.left.now (inside (xy c.args.self.now.p.now) c.args.self.now.t.a c.args.self.now.t.b c.args.self.now.t.c)) c.args.to 16 (omega arith)
    (λ j l. c.requires.3 j (omega arith))
