use mathlib.Core.Path.{refl}
use native.Mathlib.Omega.{arith}
use Rattle.bits.proofs.Entries.{entries_length}
use Rattle.primitiveset.proofs.Turns.{stretch_start, along_fits, along_more, stretch_end}
use Rattle.primitiveset.proofs.listing.pass_stretch.Goals as goal

pub loop-k-init : goal.loop-k-init
loop-k-init c = stretch_start c.requires.0 c.requires.1 c.requires.2 c.requires.3 refl

pub pass_primitive-p-requires : goal.pass_primitive-p-requires
pass_primitive-p-requires c =
    along_fits c.loop-k.invariant (rw (entries_length c.args.part.now) (omega (arith, c.loop-k-test.true, c.count_in-n.ensures))) c.requires.3 c.requires.2

pub loop-k-preserved : goal.loop-k-preserved
loop-k-preserved c =
    along_more c.loop-k.invariant (rw (entries_length c.args.part.now) (omega (arith, c.loop-k-test.true, c.count_in-n.ensures))) c.pass_primitive-p.ensures.0 c.pass_primitive-p.ensures.1

pub returns : goal.returns
returns c = stretch_end c.loop-k.invariant (rw (entries_length c.args.part.now) (omega (arith, c.loop-k-test.false, c.count_in-n.ensures)))
