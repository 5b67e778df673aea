use mathlib.Core.Path.{◌∙◌}
use Rattle.polygon.specs.Memo.{xy}
use Rattle.polygon.proofs.Blocks.{block_read}
use Rattle.polygon.proofs.Lanes.{xy_from, flag_from}
use Rattle.polygon.proofs.memo.Field.place_in_block.Goals as goal

pub returns : goal.returns
returns c =
    block_read (xy c.args.self.now.p.now) c.args.self.now.left.now _ c.args.self.now.t.a c.args.self.now.t.b c.args.self.now.t.c c.args.from _ _ _ _ _ _
    (λ k l. flag_from c.args.self.now.left.now 16 c.args.from k c.requires l) (λ k l. c.dots_in.ensures k l ∙ xy_from c.args.self.now.p.now c.args.from k)
    c.crosses-ab.ensures c.crosses.ensures c.crosses-2.ensures c.first_inside.ensures
