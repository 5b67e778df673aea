use Rattle.math.proofs.Place.{Lifted}
use Rattle.math.proofs.square_root.root_bits.Given as goal

-- The loop doubles a subnormal significand until it has 24 digits (`Lifted`).
abbrev pub invariant-loop-m : goal.invariant-loop-m
invariant-loop-m l = Lifted l.b l.m l.g

abbrev pub decreases-loop-m : goal.decreases-loop-m
decreases-loop-m l = l.g
