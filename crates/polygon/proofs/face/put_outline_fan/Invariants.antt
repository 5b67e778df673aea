use mathlib.Core.Path.{◌≡◌}
use lib.Seq.{sets}
use Rattle.polygon.specs.Ears.{fan, outline, flat}
use Rattle.polygon.proofs.Triangles.{Rest}
use Rattle.polygon.proofs.face.put_outline_fan.Given as goal

abbrev pub invariant-loop-t : goal.invariant-loop-t
invariant-loop-t l = Rest l.n l.out l.t ≡ sets l.initial.out 0 (flat (fan (outline l.n)))
