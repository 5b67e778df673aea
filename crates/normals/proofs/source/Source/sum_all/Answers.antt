use Rattle.std.proofs.Common.{rules}
use mathlib.Core.Path.{◌≡◌, refl, ap₂, ◌∙◌}
use Rattle.math.specs.Vector.{v3, zero_f}
use Rattle.mesh.specs.Normals.{sum_all}
use Rattle.normals.proofs.Walks.{left_step, left_end, all_one, all_none}
use Rattle.normals.proofs.source.Source.sum_all.Goals as goal

pub loop-g-preserved : goal.loop-g-preserved
loop-g-preserved c =
    left_step sum_all _ _ _ c.loop-g.invariant c.loop-g-test.true (all_one _ _ _ _ _ _ c.wide.ensures _ c.normal_of.ensures c.add-s.ensures)

pub returns : goal.returns
returns c =
    let z : c.default-s.result ≡ v3 zero_f zero_f zero_f = search rules in
    left_end sum_all _ _ _ refl c.loop-g.invariant c.loop-g-test.false (all_none _) ∙ ap₂ sum_all z c.faces_at-faces.ensures.hits
