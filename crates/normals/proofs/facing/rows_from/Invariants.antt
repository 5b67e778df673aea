use Rattle.tables.specs.Soups.{Sound}
use Rattle.normals.specs.Rows.{Onward}
use Rattle.normals.proofs.facing.rows_from.Given as goal

abbrev pub invariant-loop-k : goal.invariant-loop-k
invariant-loop-k l = Sound l.work l.t × Onward l.initial.work l.work l.t l.ccw l.g l.k
