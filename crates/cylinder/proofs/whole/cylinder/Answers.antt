use Rattle.std.proofs.Common.{rules}
use Rattle.std.proofs.lemmas.Result.{err_from_is_err_and}
use Rattle.lists.proofs.Options.{if_there}
use Rattle.parts.proofs.Parting.{roomy_as, written_as, call_refused, call_roomy, call_made}
use Rattle.cylinder.proofs.Sides.{side_small, call_is, call_marks, call_sized}
use Rattle.cylinder.proofs.whole.cylinder.Goals as goal

pub marks_of-m-requires : goal.marks_of-m-requires
marks_of-m-requires c = (if_there _ _ c.then_some.ensures _ (λ e. rw c.side_sizes.ensures (side_small _ c.round_of-k.result.few)), c.round_of-k.result.few)

pub returns-in_err-refusal : goal.returns-in_err-refusal
returns-in_err-refusal c =
    let p = err_from_is_err_and c.from_residual.result c.from_residual.ensures.1 in
    rw (p.1, p.2) (call_refused c.args.ctx c.args.pairs.now _ _ (call_sized c.args.radius c.args.height c.args.side c.args.top c.args.bottom c.args.slices c.args.pairs.now c.round_of-k.result c.round_of-k.ensures c.marks_of-m.ensures c.then_some.ensures c.side_sizes.ensures) c.finite_ctx.ensures _ c.in_err-refusal.ensures)

pub put_cylinder-requires : goal.put_cylinder-requires
put_cylinder-requires c =
    (call_marks c.args.radius c.args.height c.args.side c.args.top c.args.bottom c.args.slices c.args.pairs.now c.round_of-k.result c.round_of-k.ensures c.marks_of-m.ensures c.then_some.ensures c.side_sizes.ensures, roomy_as (call_is c.args.radius c.args.height c.args.side c.args.top c.args.bottom c.args.slices c.args.pairs.now c.round_of-k.result c.round_of-k.ensures) (call_roomy c.args.ctx c.args.pairs.now _ _ (call_sized c.args.radius c.args.height c.args.side c.args.top c.args.bottom c.args.slices c.args.pairs.now c.round_of-k.result c.round_of-k.ensures c.marks_of-m.ensures c.then_some.ensures c.side_sizes.ensures) c.finite_ctx.ensures c.in_ok-refusal.ensures))

pub returns : goal.returns
returns c =
    call_made c.args.ctx c.args.pairs.now _ _ (call_sized c.args.radius c.args.height c.args.side c.args.top c.args.bottom c.args.slices c.args.pairs.now c.round_of-k.result c.round_of-k.ensures c.marks_of-m.ensures c.then_some.ensures c.side_sizes.ensures) c.finite_ctx.ensures c.in_ok-refusal.ensures (written_as (call_is c.args.radius c.args.height c.args.side c.args.top c.args.bottom c.args.slices c.args.pairs.now c.round_of-k.result c.round_of-k.ensures) c.put_cylinder.ensures) c.part_report.ensures
    (search rules) (search rules) (search rules) (search rules)
