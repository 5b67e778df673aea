use mathlib.Core.Path.{sym}
use native.Mathlib.Omega.{arith}
use Rattle.lineshape.proofs.Tabling.{points_fit, stand, points_before, tabled}
use Rattle.bits.proofs.Entries.{entries_length}
use Rattle.lineshape.proofs.filling.put_tables.Goals as goal

pub put_points-requires : goal.put_points-requires
put_points-requires c = (omega (arith, c.requires.3, (stand _ _ c.requires.0).1), points_fit c.requires.1)

pub list_entries-requires : goal.list_entries-requires
list_entries-requires c =
    (rw c.put_points.auto.work c.requires.1, points_before _ _ c.requires.0, (stand _ _ c.requires.0).3, sym (stand _ _ c.requires.0).1, c.requires.4)

pub returns : goal.returns
returns c =
    tabled _ _ c.requires.0 (omega (arith, c.requires.3, (stand _ _ c.requires.0).1, entries_length c.args.list.now)) (points_fit c.requires.1) c.put_points.ensures c.list_entries.ensures
