use Prim.Native.Nat.{◌*◌}
use native.Mathlib.Numerals.{add-one, add-two}
use Rattle.polygon.specs.Ears.{flat, turn}
use Rattle.polygon.proofs.ears.put_tri.Goals as goal

pub returns-then-rev : goal.returns-then-rev
unfolding flat turn
returns-then-rev c =
    rw c.if-rev.true (cc (add-one (c.args.t * 3), add-two (c.args.t * 3)))

pub returns-else-rev : goal.returns-else-rev
unfolding flat turn
returns-else-rev c =
    rw c.if-rev.false (cc (add-one (c.args.t * 3), add-two (c.args.t * 3)))
