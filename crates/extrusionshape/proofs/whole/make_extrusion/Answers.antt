use mathlib.Core.Path.{ap}
use native.Mathlib.Omega.{arith}
use Rattle.build.specs.declared.shared.Shared.{Shared}
use Rattle.shaping.specs.Shared.{plain_shared}
use Rattle.shaping.proofs.Tabling.{faces_held}
use Rattle.shaping.proofs.Theorem.{ready, shaped}
use Rattle.sizes.proofs.Calls.{asked}
use Rattle.extrusionshape.proofs.Bounds.{sizes_are, given, net_sides, plan_asked, counted, roomy, planned_at, arcs_room, rows_room}
use Rattle.extrusionshape.proofs.Tabling.{textures_asked}
use Rattle.extrusionshape.proofs.Shapes.{shape, mesh_is}
use Rattle.extrusionshape.proofs.whole.make_extrusion.Goals as goal

pub invariant_of-x : goal.invariant_of-x
invariant_of-x c = record { given = given (asked c.args.a.now c.requires) }

pub invariant_of-net : goal.invariant_of-net
invariant_of-net c = record { sides = net_sides (asked c.args.a.now c.requires) }

pub plan_of-t-requires : goal.plan_of-t-requires
plan_of-t-requires c = plan_asked (asked c.args.a.now c.requires) c.cap_length-cap.ensures c.extrusion_sizes-z.ensures c.quads-sides.ensures.0 c.cap_count-caps.ensures.0

pub put_tables-requires : goal.put_tables-requires
put_tables-requires c =
    let A = asked c.args.a.now c.requires in
    let e = c.cap_length-cap.ensures in
    let C = counted A c.cap_length-cap.ensures c.extrusion_sizes-z.ensures c.quads-sides.ensures.0 c.cap_count-caps.ensures.0 c.ring_width-ring.ensures c.plan_of-t.ensures in
    (planned_at A e C, arcs_room A e C, rows_room A e C)

pub texture_where-requires : goal.texture_where-requires
unfolding plain_shared
texture_where-requires c =
    let A = asked c.args.a.now c.requires in
    let e = c.cap_length-cap.ensures in
    let C = counted A c.cap_length-cap.ensures c.extrusion_sizes-z.ensures c.quads-sides.ensures.0 c.cap_count-caps.ensures.0 c.ring_width-ring.ensures c.plan_of-t.ensures in
    let T = c.put_tables.ensures in
    let G = roomy A e C in
    (A.accepted.settings, ap (λ (x : Shared). x.widths) c.plain_shared-shared.ensures, T.1, omega (arith, G.floats, T.0.size), textures_asked (planned_at A e C) (omega (arith, G.textures, T.0.len)) (faces_held T.0))

pub build-requires : goal.build-requires
build-requires c =
    let A = asked c.args.a.now c.requires in
    ready A (sizes_are A) (counted A c.cap_length-cap.ensures c.extrusion_sizes-z.ensures c.quads-sides.ensures.0 c.cap_count-caps.ensures.0 c.ring_width-ring.ensures c.plan_of-t.ensures) c.put_tables.ensures.0 c.texture_where.ensures
    (shape (given A) c.plain_shared-shared.ensures _ _)

pub returns-clause-made : goal.returns-clause-made
returns-clause-made c =
    let A = asked c.args.a.now c.requires in
    let G = given A in
    shaped A (sizes_are A) (counted A c.cap_length-cap.ensures c.extrusion_sizes-z.ensures c.quads-sides.ensures.0 c.cap_count-caps.ensures.0 c.ring_width-ring.ensures c.plan_of-t.ensures) c.put_tables.ensures.0 c.texture_where.ensures
    (shape G c.plain_shared-shared.ensures _ _) (mesh_is G c.plain_shared-shared.ensures A.accepted.settings c.cap_length-cap.ensures) c.build.ensures.built
