use Rattle.lists.proofs.Pieces.{Uneven}
use Rattle.sphere.specs.Sphere.{sphere_band}
use Rattle.sphere.proofs.bands.put_bands.Given as goal

abbrev pub invariant-loop-j : goal.invariant-loop-j
invariant-loop-j l = Uneven (sphere_band l.o.n l.o.k) l.o.k l.initial.indices 0 l.j l.at l.indices
