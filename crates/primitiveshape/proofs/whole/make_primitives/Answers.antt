use mathlib.Core.Path.{refl}
use native.Mathlib.Omega.{arith}
use Rattle.block.proofs.ExtentLaws.{widths_of}
use Rattle.shaping.proofs.Tabling.{faces_held, points_held}
use Rattle.shaping.proofs.Theorem.{ready, shaped}
use Rattle.sizes.proofs.Calls.{asked}
use Rattle.facesetshape.proofs.Bounds.{plan_asked, plan_by, counted, roomy}
use Rattle.facesetshape.proofs.Tabling.{lists_of, textures_asked}
use Rattle.primitiveshape.proofs.Bounds.{sized, points_low, planned}
use Rattle.primitiveshape.proofs.Shapes.{shape, mesh_is}
use Rattle.primitiveshape.proofs.whole.make_primitives.Goals as goal

pub plan_of-t-requires : goal.plan_of-t-requires
plan_of-t-requires c =
    let A = asked c.args.a.now c.requires.0 in
    plan_asked A (sized A) c.requires.1

pub invariant_of-set : goal.invariant_of-set
invariant_of-set c =
    let A = asked c.args.a.now c.requires.0 in
    record { lists = lists_of A.accepted (widths_of _ A.kind) c.list_part-coord.ensures }

pub put_tables-requires : goal.put_tables-requires
put_tables-requires c =
    let A = asked c.args.a.now c.requires.0 in
    let e = plan_by A (sized A) c.requires.1 c.plan_of-t.ensures in
    (planned A e c.list_part-coord.ensures, omega (arith, (roomy A (sized A) e).floats))

pub texture_where-requires : goal.texture_where-requires
texture_where-requires c =
    let A = asked c.args.a.now c.requires.0 in
    let e = plan_by A (sized A) c.requires.1 c.plan_of-t.ensures in
    let P = c.put_tables.ensures in
    textures_asked (planned A e refl).spots (points_held P) (faces_held P) (omega (arith, (roomy A (sized A) e).textures, P.len))

pub build-requires : goal.build-requires
build-requires c =
    let A = asked c.args.a.now c.requires.0 in
    let e = plan_by A (sized A) c.requires.1 c.plan_of-t.ensures in
    ready A (sized A).sizes (counted A (sized A) e) c.put_tables.ensures c.texture_where.ensures (shape c.args.missing c.args.g _ A.accepted.header A.accepted.settings c.listed_shared-shared.ensures c.list_part-coord.ensures A.kind)

pub returns-clause-made : goal.returns-clause-made
returns-clause-made c =
    let A = asked c.args.a.now c.requires.0 in
    let e = plan_by A (sized A) c.requires.1 c.plan_of-t.ensures in
    shaped A (sized A).sizes (counted A (sized A) e) c.put_tables.ensures c.texture_where.ensures (shape c.args.missing c.args.g _ A.accepted.header A.accepted.settings c.listed_shared-shared.ensures c.list_part-coord.ensures A.kind) (mesh_is c.args.missing c.args.g _ A.accepted.header A.accepted.settings c.listed_shared-shared.ensures c.list_part-coord.ensures A.kind A.accepted.taken.attributes_are (points_low A)) c.build.ensures.built
