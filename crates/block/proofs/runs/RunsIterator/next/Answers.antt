use Rattle.std.proofs.Common.{refl}
use Rattle.block.proofs.RunLaws.{runs_step, runs_over}
use Rattle.block.proofs.runs.RunsIterator.next.Goals as goal

pub returns-then-start-self-clause-steps : goal.returns-then-start-self-clause-steps
returns-then-start-self-clause-steps c = record {
  first = runs_step _ _ _ c.run_at-run.ensures.items _ c.next_start-self.ensures c.if-start-self.true;
  here = refl;
  part = c.run_at-run.ensures;
  passes = record { list = refl; there = c.if-start-self.true; next = c.next_start-self.ensures };
}

pub returns-clause-steps : goal.returns-clause-steps
returns-clause-steps c = runs_over _ _ c.if-start-self.false
