use mathlib.Core.Path.{ap, ◌∙◌}
use Rattle.polygon.specs.Memo.{xy, dot_of}
use Rattle.polygon.proofs.Quads.{ear_read}
use Rattle.polygon.proofs.four.is_ear_of_four.Goals as goal

pub returns : goal.returns
returns c =
    c.is_ear_beside.ensures
    ∙ ear_read (xy c.args.p.now) c.args.rev c.args.i c.requires _ _ _ _
    (c.dot_at-a.ensures ∙ ap (dot_of (xy c.args.p.now)) c.place_of.ensures)
    (c.dot_at-b.ensures ∙ ap (dot_of (xy c.args.p.now)) c.place_of-2.ensures)
    (c.dot_at-c.ensures ∙ ap (dot_of (xy c.args.p.now)) c.place_of-3.ensures)
    (c.dot_at-d.ensures ∙ ap (dot_of (xy c.args.p.now)) c.place_of-4.ensures)
