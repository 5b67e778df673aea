use mathlib.Core.Path.{refl, ◌∙◌}
use lib.Ieee.{of_bits}
use Rattle.mesh.proofs.Options.{unwrap_or_is}
use Rattle.normals.specs.Rows.{normal_in, unit_in}
use Rattle.normals.proofs.Floats.{mirror_next}
use Rattle.normals.proofs.mirror.mirror.Goals as goal

pub loop-g-preserved : goal.loop-g-preserved
unfolding normal_in unit_in of_bits
loop-g-preserved c =
    mirror_next c.loop-g.floats _ _ _ _ _ c.loop-g.invariant refl c.loop-g-test.true c.load.ensures c.load_unit.ensures (c.unwrap_or.ensures ∙ unwrap_or_is _ _) c.put3.ensures c.put3-in-loop-g.ensures
