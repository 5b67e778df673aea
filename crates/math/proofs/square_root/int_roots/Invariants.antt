use Rattle.math.specs.Digit.{SoFar}
use Rattle.math.proofs.square_root.int_roots.Given as goal

-- Of each of the four `SoFar` holds after each digit, as in int_root.
abbrev pub invariant-loop-turns : goal.invariant-loop-turns
invariant-loop-turns l =
    SoFar l.initial.rest.a l.turns l.q.a l.r.a l.rest.a × SoFar l.initial.rest.b l.turns l.q.b l.r.b l.rest.b × SoFar l.initial.rest.c l.turns l.q.c l.r.c l.rest.c × SoFar l.initial.rest.d l.turns l.q.d l.r.d l.rest.d
