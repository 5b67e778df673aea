use Rattle.extrusion.proofs.Blocks.{list_size_lem, section_of_lem}
use mathlib.Core.Path.{◌∙◌}
use native.Mathlib.Omega.{arith}
use Rattle.extrusion.proofs.reading.Extruded.section.Goals as goal

pub list_of-requires : goal.list_of-requires
list_of-requires c = (omega arith, omega (arith, list_size_lem c.args.self.now.given 1))

pub returns : goal.returns
returns c = c.list_of.ensures ∙ section_of_lem _ _ c.args.self.now.given.head
