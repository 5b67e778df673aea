use Rattle.extrusion.proofs.Values.{at2_is}
use Rattle.extrusion.proofs.Blocks.{section_long}
use lib.ListN.{length}
use mathlib.Core.Path.{ap}
use Rattle.extrusion.proofs.Textures.{column_lt, column_reach, on_cap, on_side, row_reach}
use native.Mathlib.Omega.{arith}
use Rattle.extrusion.proofs.uv.Textured.plain_texture.Goals as goal

pub overflow_add-at : goal.overflow_add-at
overflow_add-at c =
    omega (arith, column_reach c.args.self.now.measured c.args.number c.args.point.0 _ _ c.spine_count-n.ensures c.section_count-m.ensures c.requires)

pub overflow_add-at-then-number-n : goal.overflow_add-at-then-number-n
overflow_add-at-then-number-n c =
    omega (arith, row_reach c.args.self.now.measured c.args.number c.args.point.0 _ _ c.spine_count-n.ensures c.section_count-m.ensures c.requires)

pub side_texture-requires : goal.side_texture-requires
side_texture-requires c = (
  column_reach c.args.self.now.measured c.args.number c.args.point.0 _ _ c.spine_count-n.ensures c.section_count-m.ensures c.requires,
  row_reach c.args.self.now.measured c.args.number c.args.point.0 _ _ c.spine_count-n.ensures c.section_count-m.ensures c.requires,
)

pub returns-then-number-n : goal.returns-then-number-n
returns-then-number-n c =
    on_side c.args.self.now.measured c.args.number c.args.point.0 _ _ c.spine_count-n.ensures c.section_count-m.ensures c.requires _ c.if-number-n.true c.side_texture.ensures.0 c.side_texture.ensures.1

pub at-requires : goal.at-requires
at-requires c =
    omega (arith, column_lt c.args.self.now.measured c.args.number c.args.point.0 _ _ c.spine_count-n.ensures c.section_count-m.ensures c.requires, ap length c.section.ensures, section_long c.args.self.now.source.given, c.section_count-m.ensures)

pub returns : goal.returns
returns c =
    on_cap c.args.self.now.measured c.args.number c.args.point.0 _ _ c.spine_count-n.ensures c.section_count-m.ensures c.requires _ _ _ c.if-number-n.false c.section.ensures (at2_is _ _ _ c.at.ensures) c.cap_texture.ensures
