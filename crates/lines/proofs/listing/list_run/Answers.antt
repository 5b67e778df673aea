use mathlib.Core.Path.{refl, ◌∙◌}
use native.Mathlib.Omega.{arith}
use Rattle.bits.proofs.Entries.{entries_length}
use Rattle.bits.proofs.Chunks.{entries_first, entries_none}
use Rattle.lines.proofs.Entries.{run_start, entry_place, entry_here, entry_next, run_end}
use Rattle.lines.proofs.listing.list_run.Goals as goal

pub loop-j-init : goal.loop-j-init
loop-j-init c =
    rw (c.into_iter-j-iterator.ensures.into_iter_gives, c.enumerate-j-items.ensures.source, c.enumerate-j-items.ensures.count, c.chunks_exact.ensures.size, c.chunks_exact.ensures.rest)
    (refl, run_start)

pub list_entry-c-requires : goal.list_entry-c-requires
list_entry-c-requires c =
    let I = c.loop-j.invariant in
    let S = c.in-Some.ensures.steps in
    let d = entries_first _ _ S.0.1.0 (S.0.1.1 ∙ I.0) in
    rw (I.1.left.len, c.wide.ensures, c.word.ensures, c.wide-in-loop-j.ensures, S.1)
    (c.requires.0, entry_here I.1 d c.requires.1, omega arith, omega (arith, entry_place I.1 d, entries_length c.args.run.now, c.requires.2), c.requires.3)

pub loop-j-preserved : goal.loop-j-preserved
loop-j-preserved c =
    let I = c.loop-j.invariant in
    let S = c.in-Some.ensures.steps in
    let d = entries_first _ _ S.0.1.0 (S.0.1.1 ∙ I.0) in
    rw S.2 (S.0.0 ∙ I.0, entry_next I.1 d (rw (c.wide.ensures, c.word.ensures, c.wide-in-loop-j.ensures, S.1) at c.list_entry-c.ensures))

pub returns : goal.returns
returns c =
    let I = c.loop-j.invariant in
    run_end I.1 (entries_none _ (omega (arith, c.in-None.ensures.steps.0.1.0, I.0)))
