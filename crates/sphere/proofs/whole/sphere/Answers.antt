use Rattle.std.proofs.Common.{rules}
use Rattle.std.proofs.lemmas.Result.{err_from_is_err_and}
use Rattle.sphere.proofs.Calling.{low, sized_call, rows_room, bands_room, written_call}
use Rattle.parts.proofs.Parting.{call_refused, call_roomy, call_made}
use Rattle.sphere.proofs.whole.sphere.Goals as goal

pub invariant_of-o : goal.invariant_of-o
invariant_of-o c =
    let l = low c.args.radius c.args.slices c.args.stacks c.args.pairs.now c.dim.ensures c.held.ensures c.held-2.ensures in
    record { few_slices = l.0; two_stacks = l.1; few_stacks = l.2 }

pub returns-in_err-refusal : goal.returns-in_err-refusal
returns-in_err-refusal c =
    let p = err_from_is_err_and c.from_residual.result c.from_residual.ensures.1 in
    rw (p.1, p.2) (call_refused c.args.ctx c.args.pairs.now _ _ (sized_call c.args.radius c.args.slices c.args.stacks c.args.pairs.now c.dim.ensures c.held.ensures c.held-2.ensures (c.sphere_sizes-z.ensures _ _)) c.finite_ctx.ensures _ c.in_err-refusal.ensures)

pub put_rows-requires : goal.put_rows-requires
put_rows-requires c =
    (rows_room c.args.radius c.args.slices c.args.stacks c.args.pairs.now c.dim.ensures c.held.ensures c.held-2.ensures (call_roomy c.args.ctx c.args.pairs.now _ _ (sized_call c.args.radius c.args.slices c.args.stacks c.args.pairs.now c.dim.ensures c.held.ensures c.held-2.ensures (c.sphere_sizes-z.ensures _ _)) c.finite_ctx.ensures c.in_ok-refusal.ensures))

pub put_bands-requires : goal.put_bands-requires
put_bands-requires c =
    (bands_room c.args.radius c.args.slices c.args.stacks c.args.pairs.now c.dim.ensures c.held.ensures c.held-2.ensures (call_roomy c.args.ctx c.args.pairs.now _ _ (sized_call c.args.radius c.args.slices c.args.stacks c.args.pairs.now c.dim.ensures c.held.ensures c.held-2.ensures (c.sphere_sizes-z.ensures _ _)) c.finite_ctx.ensures c.in_ok-refusal.ensures) c.put_rows.ensures)

pub returns : goal.returns
returns c =
    call_made c.args.ctx c.args.pairs.now _ _ (sized_call c.args.radius c.args.slices c.args.stacks c.args.pairs.now c.dim.ensures c.held.ensures c.held-2.ensures (c.sphere_sizes-z.ensures _ _)) c.finite_ctx.ensures c.in_ok-refusal.ensures (written_call c.args.radius c.args.slices c.args.stacks c.args.pairs.now c.dim.ensures c.held.ensures c.held-2.ensures c.put_rows.ensures c.put_bands.ensures) c.part_report.ensures
    (search rules) (search rules) (search rules) (search rules)
