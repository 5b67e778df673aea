use Rattle.std.proofs.Common.{refl}
use Rattle.primitives.proofs.Meeting.{stretches_step, stretches_over}
use Rattle.primitives.proofs.stretches.StretchesIterator.next.Goals as goal

pub returns-then-start-self-clause-steps : goal.returns-then-start-self-clause-steps
returns-then-start-self-clause-steps c = record {
  first = stretches_step _ _ _ _ c.next_start-self.ensures c.if-start-self.true _ c.stretch_at-part.ensures;
  kind = refl;
  here = refl;
  part = c.stretch_at-part.ensures;
  passes = record { list = refl; there = c.if-start-self.true; next = c.next_start-self.ensures };
}

pub returns-clause-steps : goal.returns-clause-steps
returns-clause-steps c = stretches_over _ _ _ c.if-start-self.false
