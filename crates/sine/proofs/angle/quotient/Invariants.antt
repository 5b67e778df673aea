use Rattle.sine.proofs.Division.{Div}
use Rattle.sine.proofs.angle.quotient.Given as goal

abbrev pub invariant-loop-i : goal.invariant-loop-i
invariant-loop-i l = Div l.m l.n l.i l.q l.r
