use mathlib.Core.Path.{◌∙◌}
use Rattle.normals.proofs.Arms.{else_some, else_none}
use Rattle.normals.proofs.source.Source.normal_by.Goals as goal

pub returns-in-Some : goal.returns-in-Some
returns-in-Some c = else_some _ _ _ c.in-Some.is

pub returns : goal.returns
returns c = c.own_normal.ensures ∙ else_none _ _ c.in_default.is
