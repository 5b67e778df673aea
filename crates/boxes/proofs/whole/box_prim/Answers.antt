use Rattle.std.proofs.lemmas.Result.{err_from_is_err_and}
use mathlib.Core.List.{[]}
use Rattle.std.proofs.Common.{rules}
use Rattle.parts.proofs.Parting.{call_refused, call_roomy, call_made}
use Rattle.boxes.specs.Box.{box_of}
use Rattle.boxes.proofs.Sized.{box_sized, box_room, tris_room, box_written}
use Rattle.boxes.proofs.whole.box_prim.Goals as goal

pub returns-in_err-refusal : goal.returns-in_err-refusal
returns-in_err-refusal c =
    let p = err_from_is_err_and c.from_residual.result c.from_residual.ensures.1 in
    rw (p.1, p.2) (call_refused c.args.ctx [] (box_of c.args.size) _ (box_sized c.args.size) c.finite_ctx.ensures _ c.in_err-refusal.ensures)

pub put_faces-requires : goal.put_faces-requires
put_faces-requires c = box_room c.args.size (call_roomy c.args.ctx [] (box_of c.args.size) _ (box_sized c.args.size) c.finite_ctx.ensures c.in_ok-refusal.ensures)

pub put_box_tris-requires : goal.put_box_tris-requires
put_box_tris-requires c = tris_room c.args.size (call_roomy c.args.ctx [] (box_of c.args.size) _ (box_sized c.args.size) c.finite_ctx.ensures c.in_ok-refusal.ensures) c.put_faces.ensures

pub returns : goal.returns
returns c =
    call_made c.args.ctx [] (box_of c.args.size) _ (box_sized c.args.size) c.finite_ctx.ensures c.in_ok-refusal.ensures (box_written c.args.size c.half_size-h.ensures c.put_faces.ensures c.put_box_tris.ensures) c.part_report.ensures
    (search rules) (search rules) (search rules) (search rules)
