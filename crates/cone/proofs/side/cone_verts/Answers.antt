use Rattle.cone.proofs.Sides.{slice_is}
use Rattle.cone.proofs.side.cone_verts.Goals as goal

pub returns : goal.returns
returns c =
    slice_is _ _ _ _ _ c.share-s0.ensures c.share-s1.ensures (c.cone_foot-a.ensures _ c.slice_normals-u.ensures.0) (c.cone_foot-b.ensures _ c.slice_normals-u.ensures.1) (c.cone_apex-apex.ensures _ _ c.slice_normals-u.ensures.2)
