use Rattle.normals.proofs.Making.{facing_made}
use Rattle.normals.proofs.facing.face_normal.Goals as goal

pub returns : goal.returns
returns c =
    facing_made c.requires.0 _ _ _ _ c.requires.1 c.stretch_of-e.ensures.from c.stretch_of-e.ensures.to _ _ c.points.ensures c.corners_of-names.ensures.are _ _ c.newell-n.ensures c.handed_of.ensures
