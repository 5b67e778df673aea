use borrow.Author.Rules.{rules}
use lib.ListN.{length}
use native.Mathlib.Omega.{arith}
use Rattle.mending.proofs.Table.{left_start, left_go, left_end}
use Rattle.mending.proofs.mend.Lent.first_normals.Goals as goal

pub loop-n-init : goal.loop-n-init
loop-n-init c = left_start _ _ _ _ (length c.args.table.now) (search rules)

pub loop-n-preserved : goal.loop-n-preserved
loop-n-preserved c = left_go _ _ _ _ _ _ (omega arith) c.note.auto.table c.note.ensures c.loop-n.invariant

pub returns : goal.returns
returns c = left_end _ _ _ _ _ (omega arith) c.loop-n.invariant
