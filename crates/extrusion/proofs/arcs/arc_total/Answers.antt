use Rattle.extrusion.proofs.Lengths.{length_start, length_step}
use native.Mathlib.Omega.{arith}
use Rattle.extrusion.proofs.arcs.arc_total.Goals as goal

pub loop-j-init : goal.loop-j-init
loop-j-init g c = λ value same. length_start value

pub loop-j-preserved : goal.loop-j-preserved
loop-j-preserved g c = λ value same.
    length_step value _ _ _ _ (c.loop-j.invariant value same) (same _ _ (omega arith) c.step.ensures) c.counted-x.ensures
