use Rattle.cone.proofs.Scaling.{or_axis}
use Rattle.cone.proofs.side.three_normals.Goals as goal

pub returns : goal.returns
returns c =
    let E = c.normalize_four-k.ensures in
    (or_axis c.unwrap_or.ensures E.0, or_axis c.unwrap_or-2.ensures E.1, or_axis c.unwrap_or-3.ensures E.2)
