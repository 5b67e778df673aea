use mathlib.Core.Path.{◌∙◌}
use Rattle.std.proofs.Common.{rules}
use Rattle.vertices.specs.Places.{store_in}
use Rattle.build.proofs.Asked.{ready_at, cornered_at, corners_ready, normals_stay, tables_kept, faces_ready, faces_room, mending_ready}
use Rattle.build.proofs.Joined.{mended_as, built, built_as}
use Rattle.build.proofs.whole.build.Goals as goal

pub all_vertices-n-requires : goal.all_vertices-n-requires
all_vertices-n-requires c =
    ready_at _ c.of_plan-tables.ensures (corners_ready c.requires)

pub all_faces-k-requires : goal.all_faces-k-requires
all_faces-k-requires c =
    let R = c.requires in
    let C = cornered_at _ c.of_plan-tables.ensures c.all_vertices-n.ensures.cornered in
    (faces_ready R C, faces_room R C)

pub fix_zero_normals-requires : goal.fix_zero_normals-requires
fix_zero_normals-requires c =
    let C = cornered_at _ c.of_plan-tables.ensures c.all_vertices-n.ensures.cornered in
    mending_ready c.requires C c.all_faces-k.ensures (normals_stay c.requires C) (search rules)

pub returns-clause-built : goal.returns-clause-built
returns-clause-built c =
    built_as (store_in c.all_vertices-n.new.slices)
    (built c.requires (cornered_at _ c.of_plan-tables.ensures c.all_vertices-n.ensures.cornered) c.all_faces-k.ensures _
    (mended_as (store_in c.all_vertices-n.new.slices) _ _ c.fix_zero_normals.ensures (search rules) (search rules))
    (c.fix_zero_normals.auto.table ∙ c.all_faces-k.ensures.kept.len ∙ (tables_kept c.requires (cornered_at _ c.of_plan-tables.ensures c.all_vertices-n.ensures.cornered)).len)
    _ c.clear_words.ensures c.all_faces-k.auto.floats _ c.clear_floats.ensures)
    (search rules) (search rules) (search rules) (search rules) (search rules)
