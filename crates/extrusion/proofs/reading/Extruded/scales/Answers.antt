use Rattle.extrusion.proofs.Blocks.{list_size_lem, scales_of}
use mathlib.Core.Path.{◌∙◌}
use native.Mathlib.Omega.{arith}
use Rattle.extrusion.proofs.reading.Extruded.scales.Goals as goal

pub list_of-requires : goal.list_of-requires
list_of-requires c = (omega arith, omega (arith, list_size_lem c.args.self.now.given 2))

pub returns : goal.returns
returns c = c.list_of.ensures ∙ scales_of _ _ c.args.self.now.given.head
