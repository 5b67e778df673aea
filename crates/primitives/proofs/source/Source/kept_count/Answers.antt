use mathlib.Core.Path.{refl, ap, ◌∙◌}
use native.Mathlib.Omega.{arith}
use native.Mathlib.Nat.{zero-add}
use lib.ListN.{length}
use Rattle.bits.specs.Bits.{entries}
use Rattle.block.proofs.Walks.{walks_on}
use Rattle.primitives.specs.Primitives.{primitive_of}
use Rattle.primitives.specs.Kept.{kept_primitives}
use Rattle.primitives.proofs.Meeting.{kept_start, count_first, count_end}
use Rattle.primitives.proofs.source.Source.kept_count.Goals as goal

pub loop-part-init : goal.loop-part-init
unfolding kept_primitives
loop-part-init c =
    rw (c.into_iter-part-iterator.ensures.into_iter_gives, c.stretches_in-part-items.ensures) (record {
      walk = record { list = refl; start = omega arith };
      kind = refl;
      few = omega arith;
      left = rw zero-add (ap length (kept_start (λ r. primitive_of c.args.self.now.g r.items) c.args.self.now.points c.args.self.now.g (entries c.args.self.now.list.now)));
    })

pub loop-part-preserved : goal.loop-part-preserved
loop-part-preserved c =
    let I = c.loop-part.invariant in
    let G = c.in-Some.ensures.steps in
    record {
      walk = walks_on I.walk G.passes G.part.within;
      kind = G.kind ∙ I.kind;
      few = omega (arith, G.passes.next);
      left = count_first _ _ _ G.first _ I.left c.kept_here-kept.ensures.0;
    }

pub returns : goal.returns
returns c =
    let I = c.loop-part.invariant in (count_end _ _ _ _ c.in-None.ensures.steps I.left, omega (arith, I.walk.start))
