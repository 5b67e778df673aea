use Rattle.extrusion.proofs.Blocks.{list_size_lem, spine_of, spine_long}
use mathlib.Core.Path.{ap, ◌∙◌}
use lib.ListN.{length}
use native.Mathlib.Omega.{arith}
use Rattle.extrusion.proofs.reading.Extruded.spine.Goals as goal

pub list_of-requires : goal.list_of-requires
list_of-requires c = (omega arith, omega (arith, list_size_lem c.args.self.now.given 0))

pub invariant_of-result : goal.invariant_of-result
invariant_of-result c = record { long = omega (arith, ap length (c.list_of.ensures ∙ spine_of _ _ c.args.self.now.given.head), spine_long c.args.self.now.given, c.args.self.now.given.spine) }

pub returns : goal.returns
returns c = c.list_of.ensures ∙ spine_of _ _ c.args.self.now.given.head
