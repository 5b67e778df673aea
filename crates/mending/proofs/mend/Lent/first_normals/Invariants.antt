use mathlib.Core.List.{[]}
use Rattle.mending.specs.Mend.{lent_frame, lent_keys}
use Rattle.mending.proofs.Table.{Left}
use Rattle.mending.proofs.mend.Lent.first_normals.Given as goal

abbrev pub invariant-loop-n : goal.invariant-loop-n
invariant-loop-n l = Left (lent_frame l.self.positions.now) (lent_keys [] l.self.count) l.self.indices.now l.table l.n
