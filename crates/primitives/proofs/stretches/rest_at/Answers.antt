use Rattle.primitives.proofs.Meeting.{rest_part, rest_past}
use Rattle.primitives.proofs.stretches.rest_at.Goals as goal

pub returns-then-start-n : goal.returns-then-start-n
returns-then-start-n c = rest_part _ _ c.if-start-n.true

pub returns : goal.returns
returns c = rest_past _ _ c.if-start-n.false
