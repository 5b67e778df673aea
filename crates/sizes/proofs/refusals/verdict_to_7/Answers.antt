use mathlib.Core.Path.{refl}
use Rattle.std.proofs.lemmas.Result.{err_from_is_err_and}
use Rattle.block.proofs.Table.{number_some}
use Rattle.sizes.proofs.Decided.{block_rows_lem, taken_by, shape_rows_lem, refuse, judged_at}
use Rattle.sizes.proofs.refusals.verdict_to_7.Goals as goal

pub returns-in_err-refusal_of : goal.returns-in_err-refusal_of
returns-in_err-refusal_of c =
    let p = err_from_is_err_and c.from_residual.result c.from_residual.ensures.1 in
    rw (p.1, p.2) (refuse _ _ _ _ (block_rows_lem _ _ _ c.in_err-refusal_of.ensures (number_some _)))

pub shape_verdict-requires : goal.shape_verdict-requires
shape_verdict-requires c = (c.requires, taken_by _ _ _ c.in_ok-refusal_of.ensures refl)

pub returns : goal.returns
returns c = judged_at _ _ _ _ c.shape_verdict.ensures _ (shape_rows_lem _ _ _ c.in_ok-refusal_of.ensures refl _ refl)
