use Rattle.mesh.specs.Extrusion.{turn_in}
use mathlib.Core.Path.{refl}
use native.Mathlib.Nat.{add-zero}
use Rattle.extrusion.proofs.reading.QuatEntry.read.Goals as goal

pub returns : goal.returns
unfolding turn_in
returns c = rw (c.axis_turn.ensures, c.vector_in.ensures, c.float_in.ensures, c.float_in-2.ensures, add-zero) refl
