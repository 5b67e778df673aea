use Rattle.series.proofs.Rule.{table, rule}
use borrow.Author.Rules.{rules}
use Rattle.sine.proofs.table.four_entries.Goals as goal

pub returns : goal.returns
unfolding table
returns c = (rule c.args.a (search rules), rule c.args.b (search rules), rule c.args.c (search rules), rule c.args.d (search rules))
