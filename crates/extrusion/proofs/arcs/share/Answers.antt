use Rattle.extrusion.proofs.Lengths.{share_even, share_part}
use Rattle.extrusion.proofs.arcs.share.Goals as goal

pub returns-then-t : goal.returns-then-t
returns-then-t c = share_part _ _ c.args.m c.args.i c.if-t.true

pub returns : goal.returns
returns c = share_even _ c.args.x _ _ _ _ c.if-t.false c.whole_float.ensures c.whole_float-2.ensures
