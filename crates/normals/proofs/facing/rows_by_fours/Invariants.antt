use Prim.Native.Nat.{◌*◌}
use Rattle.lists.specs.Parts.{Kept}
use Rattle.tables.specs.Soups.{Sound}
use Rattle.normals.specs.Rows.{Rowed}
use Rattle.normals.proofs.facing.rows_by_fours.Given as goal

abbrev pub invariant-loop-i : goal.invariant-loop-i
invariant-loop-i l = Kept l.t.rows l.initial.work l.work × Sound l.work l.t × Rowed l.initial.work l.work l.t l.ccw (4 * l.i)
