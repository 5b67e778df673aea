use borrow.Author.Rules.{rules}
use Rattle.series.proofs.Rule.{table, rule}
use Rattle.sine.proofs.table.entry.Goals as goal

pub returns : goal.returns
unfolding table
returns c = rule c.args.k (search rules)
