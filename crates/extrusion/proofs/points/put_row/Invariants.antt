use Rattle.lists.proofs.Pieces.{Pieces}
use Rattle.lists.proofs.Chunked.{Chunked}
use Rattle.extrusion.proofs.Walking.{spot_of}
use Rattle.extrusion.specs.Rows.{axes_of}
use lib.ListN.{length}
use Rattle.extrusion.proofs.points.put_row.Given as goal

abbrev pub invariant-loop-j : goal.invariant-loop-j
invariant-loop-j l = Chunked 1 l.section l.j l.p-iterator × Pieces (spot_of l.o (axes_of l.f) l.q l.sc l.section) (length l.section) l.initial.work l.k l.j l.work
