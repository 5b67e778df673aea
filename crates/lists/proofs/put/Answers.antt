use mathlib.Core.Path.{sym}
use lib.Seq.{set_out}
use Rattle.lists.proofs.put.Goals as goal

pub returns-else-k-table : goal.returns-else-k-table
returns-else-k-table g c = sym (set_out c.args.table.now c.args.k c.args.v c.if-k-table.false)
