use native.Mathlib.Omega.{arith}
use Rattle.polygon.specs.Plane.{axis_of}
use Rattle.polygon.proofs.plane.axis_of.Goals as goal

pub returns-then-is_most : goal.returns-then-is_most
unfolding axis_of
returns-then-is_most c = record { is = rw (← c.abs-x.ensures, ← c.abs-y.ensures, ← c.abs-z.ensures, ← c.is_most.ensures, c.if-is_most.true); small = omega arith }

pub returns-then-y-z : goal.returns-then-y-z
unfolding axis_of
returns-then-y-z c = record { is = rw (← c.abs-x.ensures, ← c.abs-y.ensures, ← c.abs-z.ensures, ← c.is_most.ensures, c.if-is_most.false, c.if-y-z.true); small = omega arith }

pub returns : goal.returns
unfolding axis_of
returns c = record { is = rw (← c.abs-x.ensures, ← c.abs-y.ensures, ← c.abs-z.ensures, ← c.is_most.ensures, c.if-is_most.false, c.if-y-z.false); small = omega arith }
