use mathlib.Core.Path.{sym}
use native.Mathlib.Omega.{arith}
use lib.ListN.{get_or-eq_default}
use Rattle.bits.specs.Bits.{entries}
use Rattle.bits.proofs.Entries.{entries_length}
use Rattle.block.proofs.runs.point_at.Goals as goal

pub returns : goal.returns
returns c = sym (get_or-eq_default (entries c.args.run.now) 0 {n = c.args.k} (omega (arith, entries_length c.args.run.now)))
