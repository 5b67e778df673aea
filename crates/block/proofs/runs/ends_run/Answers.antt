use borrow.Author.Rules.{rules}
use Rattle.block.specs.Runs.{ends_run}
use Rattle.block.proofs.runs.ends_run.Goals as goal

pub returns : goal.returns
unfolding ends_run
returns c = search rules
