use Rattle.mending.proofs.Fixing.{found_first, all_made}
use Rattle.mending.proofs.mend.Lent.replaced.Goals as goal
use native.Mathlib.Omega.{arith}

pub returns : goal.returns
returns c = (found_first _ _ _ _ _ _ _ (omega arith) c.make_table.ensures c.get.ensures c.found_at.ensures, all_made _ _ _ _ c.make_table.ensures)
