use native.Mathlib.Omega.{arith}
use Rattle.lists.proofs.Keep.{kept_all}
use Rattle.normals.proofs.Summing.{sums_all, sums_own, sums_bound}
use Rattle.normals.proofs.points.share.Goals as goal

pub returns-in-Own : goal.returns-in-Own
returns-in-Own c = (kept_all, sums_own _ c.in-Own.is)

pub returns-in-Every : goal.returns-in-Every
returns-in-Every c =
    (c.sum_points.ensures.0, sums_all c.sum_points.ensures.0 c.requires.0 _ _ _ c.in-Every.is (omega arith) c.sum_points.ensures.1)

pub returns-in-Bound : goal.returns-in-Bound
returns-in-Bound c = (kept_all, sums_bound _ _ c.in-Bound.is c.mirror.ensures)
