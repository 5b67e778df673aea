use Prim.Native.Nat.{◌-◌}
use Rattle.lists.proofs.Pieces.{Pieces}
use Rattle.lists.specs.Lists.{flat}
use Rattle.mesh.specs.Quads.{quad}
use Rattle.lists.specs.Loops.{tab}
use Rattle.mesh.specs.Extrusion.{point_number}
use Rattle.extrusion.proofs.faces.Faces.put_sides.Given as goal

abbrev pub invariant-loop-i : goal.invariant-loop-i
invariant-loop-i l = Pieces (λ i. flat (tab (quad (point_number l.self.m) i) (l.self.m - 1) 0)) (l.self.n - 1) l.initial.work l.k l.i l.work
