use Rattle.extrusion.proofs.Blocks.{section_long, section_same}
use Rattle.extrusion.proofs.Fitting.{closes_is, cap_closed, cap_open}
use Rattle.mesh.specs.Extrusion.{cap_length}
use lib.ListN.{length}
use mathlib.Core.Path.{◌∙◌, ap}
use native.Mathlib.Omega.{arith}
use Rattle.extrusion.proofs.reading.Extruded.cap_length.Goals as goal

pub overflow_sub-result : goal.overflow_sub-result
overflow_sub-result c = omega (arith, c.len-m.ensures, ap length c.section-section.ensures, section_long c.args.self.now.given, c.args.self.now.given.section)

pub returns-then-closes : goal.returns-then-closes
returns-then-closes c =
    cap_closed _ _ _ (closes_is _ _ c.closes.ensures) c.len-m.ensures c.if-closes.true ∙ ap cap_length (c.section-section.ensures ∙ section_same _ _ c.args.self.now.given.head)

pub returns : goal.returns
returns c =
    cap_open _ _ _ (closes_is _ _ c.closes.ensures) c.len-m.ensures c.if-closes.false ∙ ap cap_length (c.section-section.ensures ∙ section_same _ _ c.args.self.now.given.head)
