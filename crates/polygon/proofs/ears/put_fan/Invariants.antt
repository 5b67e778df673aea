use mathlib.Core.List.{map}
use mathlib.Core.Path.{◌≡◌}
use Prim.Native.Nat.{◌+◌, ◌*◌}
use lib.ListN.{get_or, drop}
use lib.Seq.{sets}
use Rattle.polygon.specs.Ears.{flat, turn, fan, fan_from}
use Rattle.polygon.proofs.ears.put_fan.Given as goal

abbrev pub invariant-loop-i : goal.invariant-loop-i
invariant-loop-i l =
    sets l.out ((l.t + l.i) * 3) (flat (map (turn l.rev) (fan_from (get_or l.idx 0 0) (drop (l.i + 1) l.idx)))) ≡ sets l.initial.out (l.t * 3) (flat (map (turn l.rev) (fan l.idx)))
