use Rattle.normals.proofs.Making.{rows_next, row_sound}
use Rattle.normals.proofs.facing.rows_from.Goals as goal

pub loop-k-preserved : goal.loop-k-preserved
loop-k-preserved c =
    let I = c.loop-k.invariant in
    let E = c.put_row.ensures in
    (row_sound I.0 _ _ c.loop-k-test.true E, λ v S K P. let q = I.1 v S K P in rows_next _ S _ _ q.0 q.2 c.loop-k-test.true c.face_normal-n.ensures E)
