use mathlib.Core.Path.{sym, ◌∙◌}
use native.Mathlib.Omega.{arith}
use Rattle.bits.proofs.Entries.{entries_length}
use Rattle.bits.specs.Bits.{entries}
use Rattle.block.proofs.RunLaws.{kept_long}
use Rattle.block.proofs.Tally.{tally_kept, tally_lost, tally_all}
use Rattle.block.proofs.runs.face_totals.Goals as goal

pub overflow_sub-triangles : goal.overflow_sub-triangles
overflow_sub-triangles c =
    let run = c.in-Some.run'.now in
    omega (arith, entries_length run, kept_long _ (entries run) (sym c.is_kept.ensures ∙ c.if-is_kept.true))

pub loop-run-preserved-then-is_kept : goal.loop-run-preserved-then-is_kept
loop-run-preserved-then-is_kept c = tally_kept c.loop-run.invariant c.in-Some.ensures.steps (sym c.is_kept.ensures ∙ c.if-is_kept.true) (omega arith) (omega arith) (omega arith)

pub loop-run-preserved : goal.loop-run-preserved
loop-run-preserved c = tally_lost c.loop-run.invariant c.in-Some.ensures.steps (sym c.is_kept.ensures ∙ c.if-is_kept.false)

pub returns : goal.returns
returns c = tally_all c.loop-run.invariant c.in-None.ensures.steps
