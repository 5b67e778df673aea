use mathlib.Core.List.{map}
use mathlib.Core.Path.{◌≡◌}
use Prim.Native.Nat.{◌*◌}
use lib.ListN.{drop}
use lib.Seq.{sets}
use Rattle.math.specs.declared.vector.V3.{V3}
use Rattle.polygon.specs.Plane.{flat2, entry}
use Rattle.polygon.specs.Points.{spots}
use Rattle.polygon.proofs.plane.put_entries.Given as goal

abbrev pub invariant-loop-i : goal.invariant-loop-i
invariant-loop-i l =
    sets l.out (l.i * 2) (flat2 (map (λ (p : V3). (entry p l.u, entry p l.v)) (spots l.points (drop l.i l.names))))
    ≡ sets l.initial.out 0 (flat2 (map (λ (p : V3). (entry p l.u, entry p l.v)) (spots l.points l.names)))
