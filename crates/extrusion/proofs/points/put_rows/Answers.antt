use Prim.Native.Nat.{◌<◌}
use Rattle.extrusion.proofs.Values.{at_is}
use Rattle.extrusion.proofs.Walking.{walk_start, walk_step}
use lib.ListN.{length}
use native.Mathlib.Omega.{arith}
use Rattle.extrusion.proofs.points.put_rows.Goals as goal

pub loop-i-init : goal.loop-i-init
loop-i-init c = walk_start _ _ _ _ _ _ _ _ c.first_y-y0.ensures

pub loop-i-preserved : goal.loop-i-preserved
loop-i-preserved c =
    let h : c.loop-i.i < length c.args.spine.now.points = omega arith in
    walk_step _ _ _ _ _ _ _ _ _ _ _ _ _ _ _ _ _ _ _ _ _ _ _ c.loop-i.invariant c.len-w.ensures (rw (← c.len-w.ensures) at c.requires) h c.first_z-first.ensures c.first_y-y0.ensures c.y_own.ensures c.or-y.ensures c.z_own.ensures c.pick_z-z.ensures c.axes_by-f.ensures (at_is _ _ _ c.at.ensures) c.turn_at.ensures c.scale_at.ensures c.put_row.ensures
