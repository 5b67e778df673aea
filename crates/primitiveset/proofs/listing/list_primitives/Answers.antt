use mathlib.Core.Path.{refl}
use native.Mathlib.Omega.{arith}
use Rattle.tables.proofs.Besides.{beside_all, beside_then}
use Rattle.faceset.proofs.Adding.{first_beside}
use Rattle.primitiveset.proofs.Turns.{planned_beside, pass_start, pass_end}
use Rattle.primitiveset.proofs.listing.list_primitives.Goals as goal

pub loop-start-init : goal.loop-start-init
loop-start-init c =
    rw (c.into_iter-start-iterator.ensures.into_iter_gives, c.stretches_in-start-items.ensures) (record {
      planned = planned_beside c.requires (first_beside c.args.work.now c.requires.room);
      beside = beside_all;
      walk = record { list = refl; start = omega arith };
      kind = refl;
      passed = pass_start c.args.work.now c.requires;
    })

pub returns : goal.returns
returns c =
    let I = c.loop-start.invariant in
    pass_end c.args.work.now c.requires _ (beside_then (first_beside c.args.work.now c.requires.room) I.beside) I.passed (rw (← I.kind, ← I.walk.list) c.in-None.ensures.steps)
