use mathlib.Core.Path.{refl, ap}
use native.Mathlib.Omega.{arith}
use lib.ListN.{length}
use Rattle.block.proofs.Walks.{walks_on}
use Rattle.lines.proofs.Entries.{listing_start, listing_here, listing_next, listing_end}
use Rattle.lines.proofs.listing.list_entries.Goals as goal

pub loop-line-init : goal.loop-line-init
loop-line-init c =
    rw (c.into_iter-line-iterator.ensures.into_iter_gives, c.enumerate-line-items.ensures.source, c.enumerate-line-items.ensures.count, c.runs_in.ensures) (record {
      walk = record { list = refl; start = omega arith };
      few = omega arith;
      listing = listing_start;
    })

pub list_run-c-requires : goal.list_run-c-requires
list_run-c-requires c =
    let I = c.loop-line.invariant in
    let S = c.in-Some.ensures.steps in
    let G = S.0 in
    let l = ap length I.walk.list in
    let f = I.few in
    rw (I.listing.left.len, S.1) (c.requires.0, listing_here I.listing G.first c.requires.2, omega (arith, G.here, G.part.within, G.passes.there, c.requires.4), omega (arith, G.passes.there, c.requires.4))

pub loop-line-preserved : goal.loop-line-preserved
loop-line-preserved c =
    let I = c.loop-line.invariant in
    let S = c.in-Some.ensures.steps in
    let G = S.0 in
    let f = I.few in
    rw S.2 (record {
      walk = walks_on I.walk G.passes G.part.within;
      few = omega (arith, G.passes.next);
      listing = listing_next I.listing G.first (rw S.1 at c.list_run-c.ensures);
    })

pub returns : goal.returns
returns c =
    listing_end c.loop-line.invariant.listing c.in-None.ensures.steps.0 c.requires.0 c.requires.3 c.requires.2
