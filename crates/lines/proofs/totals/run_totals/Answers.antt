use mathlib.Core.Path.{◌≡◌, ◌∙◌}
use mathlib.Core.Bool.{◌&&◌}
use native.Mathlib.Omega.{arith}
use lib.Dec.{ltb}
use Rattle.bits.proofs.Chunks.{entries_first, entries_none}
use Rattle.lists.proofs.Numbers.{counted, counted_both}
use Rattle.lines.proofs.Counting.{counting_next, counting_end}
use Rattle.lines.proofs.totals.run_totals.Goals as goal
use Rattle.lines.proofs.totals.run_totals.Goals.{then-after, else-after}

pub loop-e-preserved : goal.loop-e-preserved
loop-e-preserved c =
    let I = c.loop-e.invariant in
    let S = c.in-Some.ensures.steps in
    let both : c.if-after.from ≡ (c.loop-e.after && ltb c.word.result c.args.points) =
    elim c.if-after.branch [
      | then-after w ↦ rw w.if-after.true w.from-is
      | else-after w ↦ rw w.if-after.false (w.from-is ∙ w.if-after.false)
    ] in
    let n = counted c.loop-e.corners (ltb c.word.result c.args.points) c.from.ensures in
    let l = counted_both c.loop-e.lines c.loop-e.after (ltb c.word.result c.args.points) both c.from-in-loop-e.ensures in
    (S.0 ∙ I.0, rw c.word.ensures (counting_next I.1 (entries_first _ _ S.1.0 (S.1.1 ∙ I.0)) (rw c.word.ensures at n) (rw c.word.ensures at l)))

pub returns : goal.returns
returns c =
    let I = c.loop-e.invariant in
    let S = c.in-None.ensures.steps in
    counting_end I.1 (entries_none _ (omega (arith, S.1.0, I.0)))
