use Rattle.lists.specs.Lists.{flat}
use Rattle.lists.specs.Loops.{tab}
use Rattle.sphere.specs.Sphere.{sphere_row}
use Rattle.parts.specs.Building.{Pushes}
use Rattle.sphere.proofs.rows.put_rows.Given as goal

abbrev pub invariant-loop-j : goal.invariant-loop-j
invariant-loop-j l = Pushes 0 (flat (tab (sphere_row l.o.r l.o.n l.o.k l.pairs) l.j 0)) l.initial.b l.b
