use Rattle.extrusion.proofs.Blocks.{points_put, section_long, spine_long}
use lib.ListN.{length}
use Rattle.lists.proofs.Numbers.{rows_room}
use mathlib.Core.Path.{◌∙◌, ap, sym}
use Rattle.extrusion.proofs.reading.Extruded.put_points.Goals as goal

pub put_rows-requires : goal.put_rows-requires
put_rows-requires c = rows_room _ _ _ _ _ _ (ap length c.spine.ensures ∙ sym (spine_long c.args.self.now.given)) (ap length c.section.ensures ∙ sym (section_long c.args.self.now.given)) c.requires

pub returns : goal.returns
returns c =
    points_put _ _ _ _ _ _ _ _ c.spine.ensures c.section.ensures c.scales.ensures c.turns.ensures c.put_rows.ensures
