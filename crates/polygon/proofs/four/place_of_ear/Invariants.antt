use mathlib.Core.Path.{◌≡◌}
use Prim.Native.Nat.{◌-◌}
use Rattle.lists.specs.Loops.{first}
use Rattle.polygon.specs.Ears.{is_ear, first_ear, order}
use Rattle.polygon.specs.Memo.{xy}
use Rattle.polygon.proofs.four.place_of_ear.Given as goal

abbrev pub invariant-loop-i : goal.invariant-loop-i
invariant-loop-i l = first (is_ear (xy l.p) (order l.rev 4)) (4 - l.i) l.i ≡ first_ear (xy l.p) (order l.rev 4)
