use Rattle.faces.proofs.Pieces.{plane_made}
use Rattle.faces.proofs.indices.Outline.put_plane.Goals as goal

pub returns : goal.returns
returns c =
    plane_made _ _ _ _ _ _ _ c.points-points.ensures c.corners_of-names.ensures.are _ _ c.newell-sum.ensures c.handed_of-normal.ensures _ _ c.project.ensures
