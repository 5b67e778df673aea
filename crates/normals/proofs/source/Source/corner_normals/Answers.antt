use Rattle.normals.proofs.Begun.{by_rule}
use Rattle.normals.proofs.source.Source.corner_normals.Goals as goal

pub returns-in-Own : goal.returns-in-Own
returns-in-Own c = by_rule _ _ _ c.in-Own.is c.own_normals.ensures.is

pub returns-in-Every : goal.returns-in-Every
returns-in-Every c = by_rule _ _ _ c.in-Every.is c.every_normals.ensures.is

pub returns-in-Bound : goal.returns-in-Bound
returns-in-Bound c = by_rule _ _ _ c.in-Bound.is c.near_normals.ensures
