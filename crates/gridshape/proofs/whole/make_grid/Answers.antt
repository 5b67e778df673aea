use mathlib.Core.Path.{refl}
use native.Mathlib.Omega.{arith}
use Rattle.shaping.proofs.Tabling.{faces_held}
use Rattle.shaping.proofs.Theorem.{ready, shaped}
use Rattle.sizes.proofs.Calls.{asked}
use Rattle.gridshape.proofs.Bounds.{sizes_are, sides, net_sides, heights, plan_asked, counted, roomy, planned}
use Rattle.gridshape.proofs.Shapes.{shape, mesh_is}
use Rattle.gridshape.proofs.whole.make_grid.Goals as goal

pub invariant_of-g : goal.invariant_of-g
invariant_of-g c = record { sides = sides (asked c.args.a.now c.requires) }

pub invariant_of-net : goal.invariant_of-net
invariant_of-net c = record { sides = net_sides (asked c.args.a.now c.requires) }

pub plan_of-t-requires : goal.plan_of-t-requires
plan_of-t-requires c = plan_asked (asked c.args.a.now c.requires) c.grid_sizes-z.ensures c.quads-quads.ensures.0

pub put_tables-requires : goal.put_tables-requires
put_tables-requires c =
    let A = asked c.args.a.now c.requires in
    let C = counted A c.grid_sizes-z.ensures c.quads-quads.ensures.0 c.plan_of-t.ensures in
    (planned A C, heights A, omega (arith, (roomy A C).floats))

pub texture_where-requires-clause-listed : goal.texture_where-requires-clause-listed
texture_where-requires-clause-listed c = faces_held c.put_tables.ensures

pub texture_where-requires-clause-room : goal.texture_where-requires-clause-room
texture_where-requires-clause-room c =
    let A = asked c.args.a.now c.requires in
    let C = counted A c.grid_sizes-z.ensures c.quads-quads.ensures.0 c.plan_of-t.ensures in
    omega (arith, (roomy A C).textures, c.put_tables.ensures.len)

pub build-requires : goal.build-requires
build-requires c =
    let A = asked c.args.a.now c.requires in
    ready A (sizes_are A) (counted A c.grid_sizes-z.ensures c.quads-quads.ensures.0 c.plan_of-t.ensures) c.put_tables.ensures c.texture_where.ensures
    (shape c.args.missing _ A.accepted.header A.accepted.settings c.listed_shared-shared.ensures refl A.kind)

pub returns-clause-made : goal.returns-clause-made
returns-clause-made c =
    let A = asked c.args.a.now c.requires in
    let h = A.accepted.header in
    let s = A.accepted.settings in
    shaped A (sizes_are A) (counted A c.grid_sizes-z.ensures c.quads-quads.ensures.0 c.plan_of-t.ensures) c.put_tables.ensures c.texture_where.ensures
    (shape c.args.missing _ h s c.listed_shared-shared.ensures refl A.kind) (mesh_is c.args.missing _ h s c.listed_shared-shared.ensures (sides A).wide) c.build.ensures.built
