use Rattle.extrusion.proofs.Blocks.{section_few, section_long, spine_few, spine_long}
use Rattle.extrusion.proofs.Lengths.{arcs_put}
use Rattle.mesh.specs.Arcs.{step2, step3}
use Rattle.std.proofs.Common.{rules}
use lib.ListN.{length}
use mathlib.Core.Path.{ap}
use native.Mathlib.Omega.{arith}
use Rattle.extrusion.proofs.reading.Extruded.put_arcs.Goals as goal

pub put_params-requires-clause-some : goal.put_params-requires-clause-some
put_params-requires-clause-some c = omega (arith, c.len-m.ensures, ap length c.section-section.ensures, section_long c.args.self.now.given, c.args.self.now.given.section)

pub put_params-requires-clause-few : goal.put_params-requires-clause-few
put_params-requires-clause-few c = omega (arith, c.len-m.ensures, ap length c.section-section.ensures, section_long c.args.self.now.given, section_few c.args.self.now.given)

pub put_params-requires-clause-room : goal.put_params-requires-clause-room
put_params-requires-clause-room c = omega (arith, c.len-m.ensures, ap length c.section-section.ensures, section_long c.args.self.now.given, c.requires)

pub overflow_add-at : goal.overflow_add-at
overflow_add-at c = omega (arith, c.len-m.ensures, ap length c.section-section.ensures, section_long c.args.self.now.given, c.requires)

pub put_params-requires-2-clause-some : goal.put_params-requires-2-clause-some
put_params-requires-2-clause-some c = omega (arith, c.len.ensures, ap length c.spine-spine.ensures, spine_long c.args.self.now.given, c.args.self.now.given.spine)

pub put_params-requires-2-clause-few : goal.put_params-requires-2-clause-few
put_params-requires-2-clause-few c = omega (arith, c.len.ensures, ap length c.spine-spine.ensures, spine_long c.args.self.now.given, spine_few c.args.self.now.given)

pub put_params-requires-2-clause-room : goal.put_params-requires-2-clause-room
put_params-requires-2-clause-room c = omega (arith, c.len-m.ensures, ap length c.section-section.ensures, section_long c.args.self.now.given, c.len.ensures, ap length c.spine-spine.ensures, spine_long c.args.self.now.given, c.requires)

pub returns : goal.returns
returns c =
    arcs_put c.args.self.now.given _ _ _ _ _ _ _ _ c.section-section.ensures c.len-m.ensures c.spine-spine.ensures c.len.ensures c.requires (c.put_params.ensures (step2 c.section-section.result) (λ i d b p. search rules)) (c.put_params-2.ensures (step3 c.spine-spine.result.points) (λ i d b p. search rules))
