use borrow.Author.Rules.{rules}
use Rattle.host.proofs.answers.answered.Goals as goal

pub returns-in-Err : goal.returns-in-Err
returns-in-Err c = (rw (c.in-Err.is, c.from.ensures), rw c.in-Err.is)

pub returns-in-Ok : goal.returns-in-Ok
returns-in-Ok c = (rw c.in-Ok.is, rw (c.in-Ok.is, c.put_report.ensures))
