use native.Mathlib.Omega.{arith}
use Rattle.tables.proofs.Putting.{put_none, put_more}
use Rattle.tables.proofs.each.put_each.Goals as goal

pub loop-j-init : goal.loop-j-init
loop-j-init g c = put_none

pub loop-j-preserved : goal.loop-j-preserved
loop-j-preserved g c = put_more (let s = c.requires.room in omega arith) c.loop-j.invariant c.f.ensures
