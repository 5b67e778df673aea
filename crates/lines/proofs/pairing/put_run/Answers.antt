use mathlib.Core.Path.{refl, ◌∙◌}
use native.Mathlib.Omega.{arith}
use Rattle.lists.specs.Parts.{spliced}
use Rattle.lines.specs.Steps.{last_of}
use Rattle.lists.proofs.Putting.{left_all}
use Rattle.bits.proofs.Chunks.{entries_first, entries_none}
use Rattle.lines.proofs.Pairs.{pairing_here, pairing_room, pairing_next, pairing_end}
use Rattle.lines.proofs.pairing.put_run.Goals as goal

pub loop-e-init : goal.loop-e-init
unfolding last_of
loop-e-init c =
    rw (c.into_iter-e-iterator.ensures.into_iter_gives, c.chunks_exact-e-items.ensures.size, c.chunks_exact-e-items.ensures.rest)
    (refl, record { fits = omega arith; corners = refl; left = left_all spliced })

pub put_entry-w-requires : goal.put_entry-w-requires
put_entry-w-requires c =
    let I = c.loop-e.invariant in
    let S = c.in-Some.ensures.steps.1 in
    let d = entries_first _ _ S.0 (S.1 ∙ I.0) in
    rw (c.wide.ensures, c.word.ensures, c.wide-in-loop-e.ensures) (pairing_here I.1 d c.requires.0, I.1.fits, pairing_room I.1 d c.requires.1)

pub loop-e-preserved : goal.loop-e-preserved
loop-e-preserved c =
    let I = c.loop-e.invariant in
    let S = c.in-Some.ensures.steps in
    let d = entries_first _ _ S.1.0 (S.1.1 ∙ I.0) in
    (S.0 ∙ I.0, pairing_next I.1 d c.requires.1 (rw (c.wide.ensures, c.word.ensures, c.wide-in-loop-e.ensures) at c.put_entry-w.ensures))

pub returns : goal.returns
returns c =
    let I = c.loop-e.invariant in
    let R = pairing_end I.1 (entries_none _ (omega (arith, c.in-None.ensures.steps.1.0, I.0))) in
    record { added = R.added; corner = R.corner }
