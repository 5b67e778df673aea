use Rattle.math.specs.Digit.{SoFar}
use Rattle.math.proofs.square_root.int_root.Given as goal

-- After each digit `SoFar` holds, the bound of the remainder in it.
abbrev pub invariant-loop-done : goal.invariant-loop-done
invariant-loop-done l = SoFar l.s l.done l.q l.r l.rest
