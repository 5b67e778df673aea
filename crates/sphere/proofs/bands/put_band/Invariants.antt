use Rattle.lists.proofs.Pieces.{Uneven}
use Rattle.sphere.specs.Sphere.{sphere_quad}
use Rattle.sphere.proofs.bands.put_band.Given as goal

abbrev pub invariant-loop-i : goal.invariant-loop-i
invariant-loop-i l = Uneven (sphere_quad l.o.n l.o.k l.j) l.o.n l.initial.indices l.at-2 l.i l.at l.indices
