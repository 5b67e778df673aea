use mathlib.Core.Path.{refl, sym}
use mathlib.Core.Bool.{true, false}
use Rattle.block.proofs.Table.{number_some}
use Rattle.sizes.proofs.Decided.{refuse, pass, refused_is, passed_is}
use Rattle.geometry.proofs.Refusing.{rows_at, first_seven, few, row_eight}
use Rattle.geometry.proofs.refusals.verdict_for.Goals as goal

pub returns-in-Err : goal.returns-in-Err
returns-in-Err c =
    let r = refused_is _ _ _ _ c.verdict_to_7.ensures _ c.in-Err.is in
    refuse _ _ _ _ (first_seven _ _ _ (rows_at _ _ _ c.requires r) (number_some _))

pub is_short-requires : goal.is_short-requires
is_short-requires c =
    let p = passed_is _ _ _ _ c.verdict_to_7.ensures _ c.in-Ok.is in
    few _ _ (rows_at _ _ _ c.requires (sym p.0)) refl _ c.requires _ p.1

pub returns-then-is_short : goal.returns-then-is_short
returns-then-is_short c =
    let p = passed_is _ _ _ _ c.verdict_to_7.ensures _ c.in-Ok.is in
    refuse _ _ _ _ (row_eight _ _ _ (rows_at _ _ _ c.requires (sym p.0)) refl _ c.requires _ p.1 _ true c.is_short.ensures c.if-is_short.true)

pub returns-in-Ok : goal.returns-in-Ok
returns-in-Ok c =
    let p = passed_is _ _ _ _ c.verdict_to_7.ensures _ c.in-Ok.is in
    pass _ _ _ _ (sym (row_eight _ _ _ (rows_at _ _ _ c.requires (sym p.0)) refl _ c.requires _ p.1 _ false c.is_short.ensures c.if-is_short.false)) p.1
