use mathlib.Core.Path.{◌≡◌, ap, ◌∙◌}
use Prim.Native.Nat.{◌+◌, ◌-◌, ◌<◌}
use native.Mathlib.Omega.{arith}
use lib.ListN.{get_or}
use Rattle.polygon.specs.Memo.{xy}
use Rattle.polygon.proofs.Blocks.{not_left, not_near}
use Rattle.polygon.proofs.Lanes.{xy_from, flag_from}
use Rattle.polygon.proofs.memo.Field.is_block_near.Goals as goal

pub returns-then-not-is_any_left : goal.returns-then-not-is_any_left
returns-then-not-is_any_left c = λ e j low high.
    let k = j - c.args.from in
    let l : k < 16 = omega arith in
    let back : c.args.from + k ≡ j = omega arith in
    not_left c.args.self.now.left.now _ j _ (flag_from c.args.self.now.left.now 16 c.args.from k c.requires l ∙ ap (λ i. get_or c.args.self.now.left.now i 0) back)
    (c.is_any_left.ensures c.if-not-is_any_left.true k l)

pub returns : goal.returns
returns c = λ e j low high.
    let k = j - c.args.from in
    let l : k < 16 = omega arith in
    let back : c.args.from + k ≡ j = omega arith in
    not_near (xy c.args.self.now.p.now) c.args.self.now.left.now c.args.self.now.t.a c.args.self.now.t.b c.args.self.now.t.c j _ _ _ _
    (flag_from c.args.self.now.left.now 16 c.args.from k c.requires l ∙ ap (λ i. get_or c.args.self.now.left.now i 0) back)
    (c.dots_in.ensures k l ∙ xy_from c.args.self.now.p.now c.args.from k ∙ ap (xy c.args.self.now.p.now) back)
    (c.crosses.ensures k l) (c.crosses-2.ensures k l) (c.is_any_near.ensures e k l)
