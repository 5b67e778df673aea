use Rattle.extrusion.proofs.Sides.{quad_put}
use Rattle.extrusion.proofs.faces.Faces.put_quad.Goals as goal

pub returns : goal.returns
returns c =
    quad_put _ _ _ _ _ _ _ _ _ _ _ _ _ _ c.point_at-a.ensures c.point_at-b.ensures c.point_at-c.ensures c.point_at-d.ensures c.narrow.ensures c.narrow-2.ensures c.narrow-3.ensures c.narrow-4.ensures c.put_all.ensures
