use Rattle.polygon.specs.Ears.{place}
use Rattle.polygon.proofs.ears.place_of.Goals as goal

pub returns-then-rev : goal.returns-then-rev
unfolding place
returns-then-rev c = rw c.if-rev.true

pub returns : goal.returns
unfolding place
returns c = rw c.if-rev.false
