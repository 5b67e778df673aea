use mathlib.Core.Path.{◌≡◌}
use Prim.Native.Nat.{◌+◌, ◌*◌, ◌<◌}
use native.Mathlib.Omega.{arith}
use Rattle.normals.proofs.Making.{rows_four}
use Rattle.normals.proofs.facing.rows_by_fours.Goals as goal

pub loop-i-preserved : goal.loop-i-preserved
loop-i-preserved c =
    let I = c.loop-i.invariant in
    let l : 4 * c.loop-i.i + 3 < c.args.t.faces = omega (arith, c.loop-i-test.true) in
    let k = rows_four _ c.requires _ _ _ _ _ I.0 I.2 l c.face_normal-a.ensures c.face_normal-b.ensures c.face_normal-c.ensures c.face_normal-d.ensures c.put_row.ensures c.put_row-in-loop-i.ensures c.put_row-in-loop-i-2.ensures c.put_row-in-loop-i-3.ensures in
    let e : 4 * (c.loop-i.i + 1) ≡ 4 * c.loop-i.i + 4 = omega arith in rw e k
