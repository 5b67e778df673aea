use mathlib.Core.Path.{sym, ◌∙◌}
use Rattle.polygon.proofs.Count.{face_fan, face_ears}
use Rattle.polygon.proofs.Whole.{length_pairs, by_pairs}
use Rattle.polygon.proofs.face.face_tris.Goals as goal

pub returns-then-is_fan : goal.returns-then-is_fan
returns-then-is_fan c =
    rw (face_fan c.args.convex _ _ (length_pairs _ _ c.requires.1) (sym c.is_fan.ensures ∙ c.if-is_fan.true)) c.put_outline_fan.ensures

pub returns : goal.returns
returns c =
    rw (face_ears c.args.convex _ _ (length_pairs _ _ c.requires.1) (sym c.is_fan.ensures ∙ c.if-is_fan.false), by_pairs _ _ c.requires.1) c.ear_clip.ensures
