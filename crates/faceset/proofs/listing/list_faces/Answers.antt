use mathlib.Core.Path.{refl}
use native.Mathlib.Omega.{arith}
use Rattle.tables.proofs.Besides.{beside_all, beside_then}
use Rattle.faceset.proofs.Adding.{first_beside}
use Rattle.faceset.proofs.Turns.{planned_beside, pass_start, pass_end, along_fits, along_more}
use Rattle.faceset.proofs.listing.list_faces.Goals as goal

pub loop-number-init : goal.loop-number-init
loop-number-init c =
    rw (c.into_iter-number-iterator.ensures.into_iter_gives, c.enumerate-number-items.ensures.source, c.enumerate-number-items.ensures.count, c.runs_in.ensures) (record {
      planned = planned_beside _ c.requires (first_beside c.args.work.now c.requires.room);
      beside = beside_all;
      there = record { list = refl; start = omega arith };
      few = omega arith;
      underway = pass_start c.args.work.now c.requires;
    })

pub pass_run-p-requires : goal.pass_run-p-requires
pass_run-p-requires c = let S = c.in-Some.ensures.steps in along_fits c.loop-number.invariant S.0 (omega (arith, S.1))

pub loop-number-preserved : goal.loop-number-preserved
loop-number-preserved c = let S = c.in-Some.ensures.steps in along_more c.loop-number.invariant S.0 (omega (arith, S.1)) c.pass_run-p.ensures.0 c.pass_run-p.ensures.1 S.2

pub returns : goal.returns
returns c =
    let A = c.loop-number.invariant in
    pass_end c.args.work.now c.requires (beside_then (first_beside c.args.work.now c.requires.room) A.beside) A.underway c.in-None.ensures.steps.0
