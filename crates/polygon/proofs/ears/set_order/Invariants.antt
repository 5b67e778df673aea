use mathlib.Core.Path.{◌≡◌}
use Prim.Native.Nat.{◌-◌}
use lib.ListN.{length}
use lib.Seq.{sets}
use Rattle.polygon.specs.Ears.{place, order}
use Rattle.lists.specs.Loops.{tab}
use Rattle.polygon.proofs.ears.set_order.Given as goal

abbrev pub invariant-loop-i : goal.invariant-loop-i
invariant-loop-i l =
    sets l.idx l.i (tab (place l.rev (length l.initial.idx)) (length l.initial.idx - l.i) l.i) ≡ sets l.initial.idx 0 (order l.rev (length l.initial.idx))
