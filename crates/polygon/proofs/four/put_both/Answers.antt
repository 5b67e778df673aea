use mathlib.Core.Path.{ap, ◌∙◌}
use Rattle.polygon.specs.Ears.{place}
use Rattle.polygon.proofs.Quads.{both_written}
use Rattle.polygon.proofs.four.put_both.Goals as goal

pub returns : goal.returns
returns c =
    both_written c.args.rev c.args.out.now _ _ c.args.i c.requires _ _ _ _ _ _ c.place_of-a.ensures c.place_of-b.ensures c.place_of-c.ensures
    (c.place_of-x.ensures ∙ ap (place c.args.rev 4) c.place_without.ensures)
    (c.place_of-y.ensures ∙ ap (place c.args.rev 4) c.place_without-2.ensures)
    (c.place_of-z.ensures ∙ ap (place c.args.rev 4) c.place_without-3.ensures)
    c.put_tri.ensures c.put_tri-2.ensures
