use Rattle.parts.proofs.Turning.{wide_given}
use Rattle.boxes.specs.Box.{box_face}
use Rattle.boxes.proofs.Sized.{face_wide}
use Rattle.boxes.proofs.verts.put_faces.Goals as goal

pub put_verts-requires-clause-given : goal.put_verts-requires-clause-given
put_verts-requires-clause-given c = (box_face c.args.h, wide_given 4 _ (face_wide c.args.h) (λ i b x p. p) c.requires)

pub returns : goal.returns
returns c = c.put_verts.ensures (box_face c.args.h) (wide_given 4 _ (face_wide c.args.h) (λ i b x p. p) c.requires)
