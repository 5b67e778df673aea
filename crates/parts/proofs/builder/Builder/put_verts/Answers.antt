use Rattle.std.proofs.Common.{rules}
use Rattle.parts.proofs.Turning.{rowing_none, rowing_room, rowing_fits, rowing_more}
use Rattle.parts.proofs.builder.Builder.put_verts.Goals as goal

pub loop-i-init : goal.loop-i-init
loop-i-init g c = λ f G. rowing_none

pub put_run-requires : goal.put_run-requires
put_run-requires g c = rowing_room c.requires.given.1 (c.loop-i.invariant c.requires.given.0 c.requires.given.1) c.loop-i-test.true c.row-r.ensures c.as_slice-r.ensures

pub overflow_add-next : goal.overflow_add-next
overflow_add-next g c =
    let h = rowing_fits c.requires.given.1 (c.loop-i.invariant c.requires.given.0 c.requires.given.1) c.loop-i-test.true c.row-r.ensures c.as_slice-r.ensures in
    let s = c.requires.given.1.room.positions in
    search rules

pub loop-i-preserved : goal.loop-i-preserved
loop-i-preserved g c = λ f G. rowing_more G (c.loop-i.invariant f G) c.loop-i-test.true c.row-r.ensures c.as_slice-r.ensures c.put_run.ensures
