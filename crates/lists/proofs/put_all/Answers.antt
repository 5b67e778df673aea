use Rattle.lists.proofs.Splices.{splice_start, set_more}
use Rattle.lists.proofs.put_all.Goals as goal

pub loop-i-init : goal.loop-i-init
loop-i-init g c = splice_start c.args.table.now c.args.a

pub loop-i-preserved : goal.loop-i-preserved
loop-i-preserved g c =
    set_more _ _ _ c.index-all-i.result c.requires c.loop-i-test.true c.loop-i.auto.table c.loop-i.invariant c.index-all-i.is
