use Rattle.normals.proofs.Arms.{sum_some, sum_none}
use Rattle.normals.proofs.sums.Near.sum_of.Goals as goal

pub returns-in_default-clause-total : goal.returns-in_default-clause-total
returns-in_default-clause-total c = sum_none _ _ _ _ _ c.unit_of.ensures _ c.in_default.is c.normal_of.ensures

pub returns-clause-total : goal.returns-clause-total
returns-clause-total c = sum_some _ _ _ _ _ c.unit_of.ensures _ _ c.in-Some.is c.sum_near.ensures.total
