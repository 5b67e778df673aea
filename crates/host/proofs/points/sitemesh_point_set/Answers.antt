use Rattle.host.proofs.Ends.{points_end}
use borrow.Author.Rules.{rules}
use Rattle.host.proofs.points.sitemesh_point_set.Goals as goal

pub returns : goal.returns
returns c =
    points_end c.is_on.ensures c.is_on-2.ensures c.point_set-a.ensures c.answered.ensures
