-- The lists of face sets that small sets, fans and strips stand for, by computation. FORMAT 6.4.
use mathlib.Core.Path.{◌≡◌, refl}
use mathlib.Core.List.{[], ◌∷◌}
use Rattle.block.specs.declared.topology.Topology.TheVariants.{Triangles, Fans, Strips, Quads}
use Rattle.block.specs.Runs.{ends_run, runs_from}
use Rattle.lists.specs.Loops.{tab}
use Rattle.lists.specs.Lists.{flat, all_below}
use Rattle.primitives.specs.Primitives.{stretches, primitive_count, places_of, primitive_of, primitive_run, stretch_runs, face_list}

-- a last part that is not full gives nothing, and a bad triple does not realign the threes
triangles_row : face_list 9 Triangles (0 ∷ 1 ∷ 2 ∷ 3 ∷ 0xffff_ffff ∷ 4 ∷ 5 ∷ 6 ∷ 7 ∷ 8 ∷ 0 ∷ []) ≡ 0 ∷ 1 ∷ 2 ∷ 0xffff_ffff ∷ 5 ∷ 6 ∷ 7 ∷ 0xffff_ffff ∷ []
unfolding stretches primitive_count places_of primitive_of primitive_run stretch_runs face_list ends_run runs_from all_below tab flat
triangles_row = refl

-- a bad first entry of a fan takes all its triangles; the next run is another fan
fans_row : face_list 9 Fans (9 ∷ 1 ∷ 2 ∷ 3 ∷ 0xffff_ffff ∷ 4 ∷ 5 ∷ 6 ∷ 7 ∷ []) ≡ 4 ∷ 5 ∷ 6 ∷ 0xffff_ffff ∷ 4 ∷ 6 ∷ 7 ∷ 0xffff_ffff ∷ []
unfolding stretches primitive_count places_of primitive_of primitive_run stretch_runs face_list ends_run runs_from all_below tab flat
fans_row = refl

-- an odd triangle of a strip starts at its second entry; a bad entry takes the triangles that name it, and those after count on
strips_row : face_list 9 Strips (0 ∷ 9 ∷ 2 ∷ 3 ∷ 4 ∷ 5 ∷ []) ≡ 2 ∷ 3 ∷ 4 ∷ 0xffff_ffff ∷ 4 ∷ 3 ∷ 5 ∷ 0xffff_ffff ∷ []
unfolding stretches primitive_count places_of primitive_of primitive_run stretch_runs face_list ends_run runs_from all_below tab flat
strips_row = refl

quads_row : face_list 9 Quads (0 ∷ 1 ∷ 2 ∷ 3 ∷ 4 ∷ 5 ∷ 6 ∷ 9 ∷ 5 ∷ 6 ∷ 7 ∷ 8 ∷ 1 ∷ []) ≡ 0 ∷ 1 ∷ 2 ∷ 3 ∷ 0xffff_ffff ∷ 5 ∷ 6 ∷ 7 ∷ 8 ∷ 0xffff_ffff ∷ []
unfolding stretches primitive_count places_of primitive_of primitive_run stretch_runs face_list ends_run runs_from all_below tab flat
quads_row = refl

-- a value below -1 ends no run: it takes the triangles that name it, and those after count on
below_row : (face_list 9 Strips (0 ∷ 0xffff_fff9 ∷ 2 ∷ 3 ∷ 4 ∷ 5 ∷ []) ≡ 2 ∷ 3 ∷ 4 ∷ 0xffff_ffff ∷ 4 ∷ 3 ∷ 5 ∷ 0xffff_ffff ∷ [])
    × (face_list 9 Fans (0 ∷ 1 ∷ 2 ∷ 0xffff_fffe ∷ 3 ∷ 4 ∷ []) ≡ 0 ∷ 1 ∷ 2 ∷ 0xffff_ffff ∷ 0 ∷ 3 ∷ 4 ∷ 0xffff_ffff ∷ [])
unfolding stretches primitive_count places_of primitive_of primitive_run stretch_runs face_list ends_run runs_from all_below tab flat
below_row = (refl, refl)
