use Rattle.vertices.specs.Places.{store_in, SameSlices}
use Rattle.corners.specs.Given.{lent_in}
use Rattle.corners.proofs.Corners.{Turning}
use Rattle.corners.proofs.whole.all_vertices.Given as goal

abbrev pub invariant-loop-i : goal.invariant-loop-i
invariant-loop-i l =
    SameSlices l.initial.slices l.slices
    × Turning (lent_in l.fn.g) l.fn.g.attributes l.w l.t (store_in l.initial.slices) l.initial.work l.i l.n.0 (store_in l.slices) l.work
