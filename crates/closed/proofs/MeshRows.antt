-- FORMAT 18, worked on whole meshes: a triangle with ccw off beside a skipped run, and two triangles of two colours, which share points but no vertices.
use mathlib.Core.Path.{◌≡◌, refl}
use mathlib.Core.List.{List, [], ◌∷◌}
use Prim.Native.Nat.{ℕ}
use lib.Ieee.{of_bits, to_bits, add, sub, mul, div, neg, lt, le, is_nan}
use Rattle.bits.specs.Bits.{field, entries}
use Rattle.math.specs.Vector.{vlen, unit_of}
use Rattle.math.specs.SquareRoot.{root_of}
use Rattle.math.specs.Order.{is_zero, negative, magnitude, choice, min_of, max_of}
use Rattle.lists.specs.Loops.{any, tab, run, first}
use Rattle.lists.specs.Lists.{map_n, join_n, has, place, meet, firsts, same_words, flat, all_below}
use Rattle.polygon.specs.Points.{spot, spots}
use Rattle.polygon.specs.Facing.{newell_from, newell}
use Rattle.polygon.specs.Plane.{handed, axis_of, flip_of, projected, projection}
use Rattle.polygon.specs.Ears.{outline as numbers, fan_from, fan}
use Rattle.polygon.specs.Face.{face_tris, triangles}
use Rattle.polygon.specs.Edges.{tris}
use Rattle.block.specs.Edition.{edition1, edition_of}
use Rattle.block.specs.Header.{counts_of, header_of}
use Rattle.block.specs.Extents.{widths, words_in, list_at, list_size, place_of}
use Rattle.block.specs.Settings.{settings_of}
use Rattle.block.specs.Crease.{crease_of}
use Rattle.block.specs.Texture.{uv_words}
use Rattle.block.specs.Runs.{ends_run, runs_from, kept}
use Rattle.block.specs.Stream.{itself, chosen, number_in, number_at}
use Rattle.block.specs.Value.{value_at}
use Rattle.mesh.specs.Words.{point_words}
use Rattle.mesh.specs.Normals.{outline, facing, hits, hits_of, incident, crease_sum, or_else, generated, corner_normal}
use Rattle.mesh.specs.Vertices.{same_key, key_of, keys_of, vertices, wound, locals, face_indices, indices_of}
use Rattle.mesh.specs.Mend.{or_words, renorm, mend_by, mended}
use Rattle.mesh.specs.Mesh.{Slices, mesh_of, mesh, slices_of}
use Rattle.mesh.specs.Texture.{coord_of, widened, span_of, axis_by, insert, sorted, divisor, fit_by, fitting, fit_of, default_at}
use Rattle.mesh.specs.FaceSet.{rest_of, coord_in, normal_of, colour_of, texture_by, corner_by, corner_of, face_of, faces_of, frame_of, face_set_mesh}
use Rattle.mesh.specs.Result.{block_mesh, made_of, made}
use Rattle.geometry.specs.Answer.{white}
use Rattle.closed.specs.Outlines.{kept_runs, outlines}
use Rattle.closed.specs.Edges.{triangles_of, edges_in}
use Rattle.closed.proofs.Rows.{end, w1, block}

-- three points, the run 0 1 2, and one that names point 9, which is not there; ccw is off
abbrev leaf : List ℕ
leaf = block 0x10c0_0000 0xc007_0000 0 (0 ∷ 0 ∷ 0 ∷ w1 ∷ 0 ∷ 0 ∷ 0 ∷ w1 ∷ 0 ∷ 0 ∷ 1 ∷ 2 ∷ end ∷ 0 ∷ 1 ∷ 9 ∷ [])

-- four points and the runs 0 1 2 and 2 1 3, each with a colour of its own
abbrev flag : List ℕ
flag =
    block 0x11c2_0001 0x0007_0008 0
    (0 ∷ 0 ∷ 0 ∷ w1 ∷ 0 ∷ 0 ∷ 0 ∷ w1 ∷ 0 ∷ w1 ∷ w1 ∷ 0 ∷ 0 ∷ 1 ∷ 2 ∷ end ∷ 2 ∷ 1 ∷ 3 ∷ w1 ∷ 0 ∷ 0 ∷ 0 ∷ w1 ∷ 0 ∷ [])

pub leaf_made : ((made white leaf).sources ≡ 0 ∷ 1 ∷ 2 ∷ []) × ((made white leaf).indices ≡ 0 ∷ 2 ∷ 1 ∷ [])
unfolding made made_of slices_of block_mesh face_set_mesh rest_of coord_in header_of counts_of edition_of edition1 field entries tab place_of list_at list_size widths words_in settings_of crease_of frame_of faces_of runs_from ends_run face_of kept all_below corner_of corner_by normal_of colour_of number_at number_in chosen itself value_at texture_by uv_words fit_of fitting fit_by sorted insert divisor axis_by span_of widened coord_of default_at min_of max_of choice is_zero negative magnitude is_nan mesh vertices keys_of key_of corner_normal generated or_else incident hits_of hits crease_sum facing outline spots spot newell newell_from handed indices_of face_indices locals wound triangles face_tris projection projected axis_of flip_of fan fan_from numbers any first run mesh_of mended mend_by or_words renorm point_words join_n map_n firsts meet has place same_key same_words flat unit_of vlen root_of of_bits to_bits add sub mul div neg lt le
leaf_made = (refl, refl)

pub flag_made : ((made white flag).sources ≡ 0 ∷ 1 ∷ 2 ∷ 2 ∷ 1 ∷ 3 ∷ []) × ((made white flag).indices ≡ 0 ∷ 1 ∷ 2 ∷ 3 ∷ 4 ∷ 5 ∷ [])
unfolding made made_of slices_of block_mesh face_set_mesh rest_of coord_in header_of counts_of edition_of edition1 field entries tab place_of list_at list_size widths words_in settings_of crease_of frame_of faces_of runs_from ends_run face_of kept all_below corner_of corner_by normal_of colour_of number_at number_in chosen itself value_at texture_by uv_words fit_of fitting fit_by sorted insert divisor axis_by span_of widened coord_of default_at min_of max_of choice is_zero negative magnitude is_nan mesh vertices keys_of key_of corner_normal generated or_else incident hits_of hits crease_sum facing outline spots spot newell newell_from handed indices_of face_indices locals wound triangles face_tris projection projected axis_of flip_of fan fan_from numbers any first run mesh_of mended mend_by or_words renorm point_words join_n map_n firsts meet has place same_key same_words flat unit_of vlen root_of of_bits to_bits add sub mul div neg lt le
flag_made = (refl, refl)

-- the edges of slices with these sources and indices
edges_of : (S : Slices) (vs is : List ℕ) → S.sources ≡ vs → S.indices ≡ is → (p q : ℕ)
    → edges_in S p q ≡ edges_in (record { sources = vs; positions = []; normals = []; colours = []; textures = []; indices = is }) p q
unfolding edges_in
edges_of S vs is a b p q = λ i. edges_in (record { sources = a i; positions = []; normals = []; colours = []; textures = []; indices = b i }) p q

-- from 0 to 1 the outline has a step, and the triangle, turned, an edge back; the run that is skipped has no outline
pub leaf_turned : (outlines leaf ≡ (0 ∷ 1 ∷ 2 ∷ []) ∷ []) × (edges_in (made white leaf) 0 1 ≡ 0) × (edges_in (made white leaf) 1 0 ≡ 1)
unfolding outlines kept_runs header_of counts_of edition_of edition1 field entries tab place_of list_at list_size widths words_in runs_from ends_run all_below kept flat edges_in triangles_of tris
leaf_turned =
    let at = edges_of (made white leaf) (0 ∷ 1 ∷ 2 ∷ []) (0 ∷ 2 ∷ 1 ∷ []) leaf_made.0 leaf_made.1 in
    (refl, at 0 1, at 1 0)

-- from 1 to 2 there is an edge, and one back between other vertices
pub flag_paired : (edges_in (made white flag) 1 2 ≡ 1) × (edges_in (made white flag) 2 1 ≡ 1)
unfolding edges_in triangles_of tris
flag_paired =
    let at = edges_of (made white flag) (0 ∷ 1 ∷ 2 ∷ 2 ∷ 1 ∷ 3 ∷ []) (0 ∷ 1 ∷ 2 ∷ 3 ∷ 4 ∷ 5 ∷ []) flag_made.0 flag_made.1 in
    (at 1 2, at 2 1)
