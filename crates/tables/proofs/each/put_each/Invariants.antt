use Rattle.tables.specs.Each.{PutEach}
use Rattle.tables.proofs.each.put_each.Given as goal

abbrev pub invariant-loop-j : goal.invariant-loop-j
invariant-loop-j g l = PutEach (goal.F-post g l.f) l.k l.j l.initial.work l.work
