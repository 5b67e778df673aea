use Rattle.normals.proofs.Waiting.{told_new}
use Rattle.normals.proofs.sums.Near.sum_at.Goals as goal

pub returns-clause-told : goal.returns-clause-told
returns-clause-told c = told_new _ c.sum_of.ensures.total c.sum_of.ensures.alone
