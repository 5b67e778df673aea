use Rattle.host.proofs.Ends.{converted_ends}
use borrow.Author.Rules.{rules}
use Rattle.host.proofs.sitemesh_convert.Goals as goal

pub returns : goal.returns
returns c = search (rules, converted_ends)
