use mathlib.Core.Path.{◌≡◌}
use Prim.Native.Nat.{◌-◌, ◌/◌}
use lib.ListN.{length}
use Rattle.polygon.specs.Ears.{area_term, area}
use Rattle.lists.specs.Loops.{run}
use Rattle.polygon.specs.Memo.{xy}
use Rattle.polygon.proofs.ears.area_of.Given as goal

abbrev pub invariant-loop-i : goal.invariant-loop-i
invariant-loop-i l = run (area_term (xy l.p) (length l.p / 2)) (length l.p / 2 - l.i) l.i l.s ≡ area (xy l.p) (length l.p / 2)
