use Prim.Native.Nat.{◌+◌, ◌≤◌}
use mathlib.Core.Path.{◌≡◌}
use lib.ListN.{length}
use Rattle.bits.specs.Bits.{entries}
use Rattle.block.proofs.Walks.{Walks}
use Rattle.primitives.specs.Primitives.{primitive_of}
use Rattle.primitives.specs.Kept.{kept_over, kept_primitives}
use Rattle.primitives.specs.Walk.{rest}
use Rattle.primitives.proofs.source.Source.kept_count.Given as goal

abbrev pub invariant-loop-part : goal.invariant-loop-part
invariant-loop-part l =
    let w = l.part-iterator in record {
      walk : Walks l.self.list.now w.list.now w.start;
      kind : w.g ≡ l.self.g;
      few : l.kept ≤ w.start;
      left : l.kept + length (kept_over (λ r. primitive_of l.self.g r.items) l.self.points l.self.g (rest w)) ≡ length (kept_primitives l.self.points l.self.g (entries l.self.list.now));
    }
