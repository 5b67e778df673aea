use Rattle.normals.proofs.Summing.{ready_kept, sums_next}
use Rattle.normals.proofs.points.sum_points.Goals as goal

pub invariant_of-x-in-loop-p : goal.invariant_of-x-in-loop-p
invariant_of-x-in-loop-p c = record { ready = ready_kept c.loop-p.invariant.0 c.requires }

pub loop-p-preserved : goal.loop-p-preserved
loop-p-preserved c =
    let I = c.loop-p.invariant in
    let k = sums_next I.0 c.requires _ _ _ I.1 c.sum_all-s.ensures c.normalize.ensures c.store_unit.ensures.0 c.store_unit.ensures.1 in
    (k.0, k.1)
