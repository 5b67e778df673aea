use mathlib.Core.Path.{ap, ◌∙◌}
use Rattle.lists.proofs.Lists.{all_low}
use Rattle.mesh.specs.Normals.{sum_near}
use Rattle.normals.proofs.Walks.{left_step, left_end, near_one_lem, near_nothing}
use Rattle.normals.proofs.sums.Near.sum_near.Goals as goal

pub loop-x-preserved : goal.loop-x-preserved
loop-x-preserved c =
    let l = all_low c.args.self.now.source.tables.plan.now.faces c.faces_at-faces.result.now c.faces_at-faces.ensures.low _ _ c.loop-x-test.true c.wide-g.ensures in
    let I = c.loop-x.invariant in
    (left_step (sum_near _ _ _) _ _ _ I.0 c.loop-x-test.true (near_one_lem _ _ _ _ _ _ c.wide-g.ensures _ _ _ _ _ c.args.self.now.source.ready l (c.args.self.now.mirrored.unit _ l) (c.args.self.now.mirrored.normal _ l) c.near_step-s.ensures.total), λ a. let z = c.near_step-s.ensures.alone a in z.1 ∙ I.1 z.0)

pub returns-clause-total : goal.returns-clause-total
returns-clause-total c =
    left_end (sum_near _ _ _) _ _ _ (c.get3.ensures ∙ c.args.self.now.mirrored.normal _ c.requires.1) c.loop-x.invariant.0 c.loop-x-test.false (near_nothing _ _ _ _)
    ∙ ap (sum_near _ _ _ _) c.faces_at-faces.ensures.hits

pub returns-clause-alone : goal.returns-clause-alone
returns-clause-alone c = λ a. c.loop-x.invariant.1 a ∙ c.get3.ensures ∙ c.args.self.now.mirrored.normal _ c.requires.1
