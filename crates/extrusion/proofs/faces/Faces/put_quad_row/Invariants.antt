use Prim.Native.Nat.{◌-◌}
use Rattle.lists.proofs.Pieces.{Pieces}
use Rattle.mesh.specs.Quads.{quad}
use Rattle.mesh.specs.Extrusion.{point_number}
use Rattle.extrusion.proofs.faces.Faces.put_quad_row.Given as goal

abbrev pub invariant-loop-j : goal.invariant-loop-j
invariant-loop-j l = Pieces (quad (point_number l.self.m) l.i) (l.self.m - 1) l.initial.work l.k l.j l.work
