use Rattle.lists.specs.Parts.{Kept}
use Rattle.tables.specs.Soups.{Sound}
use Rattle.normals.specs.Rows.{OwnedTo}
use Rattle.normals.proofs.facing.owners.Given as goal

abbrev pub invariant-loop-g : goal.invariant-loop-g
invariant-loop-g l = Kept l.t.owners l.initial.work l.work × Sound l.work l.t × OwnedTo l.initial.work l.work l.t l.g
