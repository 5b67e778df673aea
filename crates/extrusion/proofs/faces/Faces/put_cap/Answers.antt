use Rattle.tables.proofs.Putting.{put_are}
use Rattle.lists.proofs.Splices.{splice_start}
use Rattle.extrusion.proofs.faces.Faces.put_cap.Goals as goal

pub returns-clause-put : goal.returns-clause-put
returns-clause-put g c = λ value p. rw (← c.has_cap.ensures, c.if-has_cap.false) (splice_start _ _)

pub returns-then-has_cap-clause-put : goal.returns-then-has_cap-clause-put
returns-then-has_cap-clause-put g c = λ value p. rw (← c.has_cap.ensures, c.if-has_cap.true) (put_are value c.put_each.ensures p)
