use mathlib.Core.Path.{refl}
use native.Mathlib.Omega.{arith}
use Rattle.faces.proofs.Pieces.{few_put, more_put}
use Rattle.faces.proofs.indices.one_face.Goals as goal

pub returns-then-n-lt3 : goal.returns-then-n-lt3
returns-then-n-lt3 c =
    few_put c.requires.0.sound c.args.ccw c.args.convex _ _ _ c.requires.1 c.stretch_of-r.ensures.from c.stretch_of-r.ensures.to _ _ _ c.if-n-lt3.true

pub returns : goal.returns
returns c =
    let e = c.stretch_of-r.ensures in more_put c.requires.0.sound c.args.ccw c.args.convex _ _ _ c.requires.1 e.from e.to _ _ _ _ _ _ c.args.at _ (omega (arith, c.requires.2, e.from, e.to)) c.put_corners.ensures.0 c.put_corners.ensures.1 c.name_corners.ensures c.put_corners.ensures.2 refl
