-- FORMAT 6.4, 8.5, worked: of each kind from 4 to 7 a block that is accepted, with slices just long enough, what bad entries leave of it, and meshes.
use mathlib.Core.Path.{◌≡◌, refl}
use mathlib.Core.List.{List, [], ◌∷◌, ◌++◌}
use Prim.Native.Nat.{ℕ}
use lib.Ieee.{of_bits, to_bits, add, sub, mul, div, neg, lt, le, is_nan}
use Rattle.bits.specs.Bits.{field, entries, bytes_of}
use Rattle.bits.specs.declared.Words4.{Words4}
use Rattle.math.specs.Vector.{vlen, unit_of}
use Rattle.math.specs.SquareRoot.{root_of}
use Rattle.math.specs.Order.{is_zero, negative, magnitude, choice, min_of, max_of}
use Rattle.lists.specs.Loops.{any, tab, run, first}
use Rattle.polygon.specs.Points.{spot, spots}
use Rattle.polygon.specs.Facing.{newell_from, newell}
use Rattle.polygon.specs.Plane.{handed, axis_of, flip_of, projected, projection}
use Rattle.polygon.specs.Ears.{outline as around, fan_from, fan, cross2, point_in_tri, blocks, is_ear, first_ear, goes, clip, area_term, area, is_reversed, place as turned, order, turn, ear_clip_by, ear_clip}
use Rattle.polygon.specs.Face.{face_tris, triangles}
use Rattle.block.specs.Edition.{edition1, edition_of}
use Rattle.block.specs.Header.{counts_of, header_of}
use Rattle.block.specs.Extents.{widths, words_in, list_at, list_size, place_of}
use Rattle.block.specs.Settings.{settings_of}
use Rattle.block.specs.Crease.{crease_of}
use Rattle.block.specs.Texture.{uv_words}
use Rattle.block.specs.Runs.{ends_run, runs_from, kept}
use Rattle.block.specs.Stream.{itself, chosen, number_in, number_at}
use Rattle.block.specs.Value.{value_at}
use Rattle.lists.specs.Lists.{map_n, join_n, has, place, meet, firsts, same_words, flat, all_below, remove}
use Rattle.mesh.specs.Words.{point_words}
use Rattle.mesh.specs.Normals.{outline, facing, hits, hits_of, incident, crease_sum, or_else, generated, corner_normal}
use Rattle.mesh.specs.Vertices.{same_key, key_of, keys_of, vertices, wound, locals, face_indices, indices_of}
use Rattle.mesh.specs.Mend.{or_words, renorm, mend_by, mended}
use Rattle.mesh.specs.Mesh.{mesh_of, mesh}
use Rattle.mesh.specs.Texture.{coord_of, widened, span_of, axis_by, insert, sorted, divisor, fit_by, fitting, fit_of, default_at}
use Rattle.mesh.specs.FaceSet.{rest_of, coord_in, normal_of, colour_of, texture_by, corner_by, corner_of, face_of, faces_of, convex_frame}
use Rattle.block.specs.declared.kind.Kind.TheVariants.{Primitives}
use Rattle.block.specs.declared.topology.Topology.TheVariants.{Triangles, Fans, Strips, Quads}
use Rattle.block.specs.Runs.{corners, sum_over, triangles as block-triangles}
use Rattle.block.specs.Extents.{word_count}
use Rattle.block.specs.Refusal.{block_rows, first_of}
use Rattle.primitives.specs.Primitives.{stretches, primitive_count, places_of, primitive_of, primitive_run, stretch_runs, face_list}
use Rattle.mesh.specs.Primitives.{listed_coord, primitive_mesh}
use Rattle.mesh.specs.Sizes.{primitive_sizes, sizes_of, is_no_shape, is_over_corners, shape_rows}
use Rattle.geometry.specs.Answer.{is_short, rows, refusal}
use Rattle.geometry.proofs.Rows.{lent, none}

abbrev bad : ℕ
bad = 9

abbrev one : ℕ
one = 0x3f80_0000

-- a set of a square's four points, with convex off, the crease angle 0 and the index ws, by the first two words of its header
abbrev square : ℕ → ℕ → List ℕ → List ℕ
square a b ws =
    bytes_of
    ((a ∷ b ∷ 0 ∷ 0 ∷ 0 ∷ [])
    ++ ((0 ∷ one ∷ one ∷ one ∷ 0 ∷ 0 ∷ 0 ∷ one ∷ one ∷ one ∷ 0 ∷ 0 ∷ []) ++ ((0 ∷ 0 ∷ 0 ∷ one ∷ 0 ∷ 0 ∷ one ∷ one ∷ 0 ∷ 0 ∷ one ∷ 0 ∷ []) ++ ws)))

-- a triangle, and a part that is not full
abbrev triangle_set : List ℕ
triangle_set = square 0x1930_0001 0x0005_0000 (0 ∷ 1 ∷ 2 ∷ 3 ∷ 0 ∷ [])

-- a fan with a bad first entry, and one of two triangles
abbrev fan_set : List ℕ
fan_set = square 0x1b30_0001 0x0008_0000 (bad ∷ 1 ∷ 2 ∷ 0xffff_ffff ∷ 0 ∷ 1 ∷ 2 ∷ 3 ∷ [])

-- a strip of 5 entries with a bad one in the middle, and one of two triangles
abbrev strip_set : List ℕ
strip_set = square 0x1d30_0001 0x000a_0000 (0 ∷ 1 ∷ bad ∷ 2 ∷ 3 ∷ 0xffff_ffff ∷ 0 ∷ 1 ∷ 3 ∷ 2 ∷ [])

-- a quad, and a part that is not full
abbrev quad_set : List ℕ
quad_set = square 0x1f30_0001 0x0007_0000 (0 ∷ 1 ∷ 2 ∷ 3 ∷ 0 ∷ 1 ∷ 2 ∷ [])

pub accepted_rows : (refusal triangle_set (lent 4 3 3 0) ≡ 0)
    × ((header_of triangle_set).kind ≡ Primitives Triangles)
    × (refusal fan_set (lent 4 6 6 0) ≡ 0)
    × ((header_of fan_set).kind ≡ Primitives Fans)
    × (refusal strip_set (lent 4 6 6 0) ≡ 0)
    × ((header_of strip_set).kind ≡ Primitives Strips)
    × (refusal quad_set (lent 4 4 6 0) ≡ 0)
    × ((header_of quad_set).kind ≡ Primitives Quads)
    × (refusal quad_set (lent 4 4 6 1) ≡ 8)  -- a float too few
    × (refusal (square 0x1d10_0001 0x0005_0000 (0 ∷ 1 ∷ 2 ∷ 3 ∷ 0 ∷ [])) none ≡ 9)  -- colours not per vertex
unfolding refusal rows is_short shape_rows block_rows first_of all_below header_of counts_of edition_of edition1 widths words_in word_count list_at list_size place_of field tab entries ends_run runs_from kept corners block-triangles sum_over sizes_of primitive_sizes face_list stretch_runs primitive_run primitive_of places_of primitive_count stretches flat is_no_shape is_over_corners
accepted_rows = (refl, refl, refl, refl, refl, refl, refl, refl, refl, refl)

-- the colour of a missing entry
abbrev white : Words4
white = record { r = one; g = one; b = one; a = one }

pub triangle_set_row : (primitive_mesh white Triangles triangle_set).indices ≡ 0 ∷ 1 ∷ 2 ∷ []
unfolding primitive_mesh listed_coord face_list stretch_runs primitive_run primitive_of places_of primitive_count stretches rest_of coord_in header_of counts_of edition_of edition1 field entries tab place_of list_at list_size widths words_in settings_of crease_of convex_frame faces_of runs_from ends_run face_of kept all_below corner_of corner_by normal_of colour_of number_at number_in chosen itself value_at texture_by uv_words fit_of fitting fit_by sorted insert divisor axis_by span_of widened coord_of default_at min_of max_of choice is_zero negative magnitude is_nan mesh vertices keys_of key_of corner_normal generated or_else incident hits_of hits crease_sum facing outline spots spot newell newell_from handed indices_of face_indices locals wound triangles face_tris projection projected axis_of flip_of ear_clip ear_clip_by clip goes first_ear is_ear blocks point_in_tri cross2 remove fan fan_from order turned turn is_reversed area area_term any first run mesh_of mended mend_by or_words renorm point_words join_n map_n firsts meet has place same_key same_words flat unit_of vlen root_of of_bits to_bits add sub mul div neg lt le
triangle_set_row = refl

pub fan_set_row : (primitive_mesh white Fans fan_set).indices ≡ 0 ∷ 1 ∷ 2 ∷ 0 ∷ 2 ∷ 3 ∷ []
unfolding primitive_mesh listed_coord face_list stretch_runs primitive_run primitive_of places_of primitive_count stretches rest_of coord_in header_of counts_of edition_of edition1 field entries tab place_of list_at list_size widths words_in settings_of crease_of convex_frame faces_of runs_from ends_run face_of kept all_below corner_of corner_by normal_of colour_of number_at number_in chosen itself value_at texture_by uv_words fit_of fitting fit_by sorted insert divisor axis_by span_of widened coord_of default_at min_of max_of choice is_zero negative magnitude is_nan mesh vertices keys_of key_of corner_normal generated or_else incident hits_of hits crease_sum facing outline spots spot newell newell_from handed indices_of face_indices locals wound triangles face_tris projection projected axis_of flip_of ear_clip ear_clip_by clip goes first_ear is_ear blocks point_in_tri cross2 remove fan fan_from order turned turn is_reversed area area_term any first run mesh_of mended mend_by or_words renorm point_words join_n map_n firsts meet has place same_key same_words flat unit_of vlen root_of of_bits to_bits add sub mul div neg lt le
fan_set_row = refl

-- an odd triangle starts at its second entry: 3 1 2 of the points
pub strip_set_row : (primitive_mesh white Strips strip_set).indices ≡ 0 ∷ 1 ∷ 2 ∷ 2 ∷ 1 ∷ 3 ∷ []
unfolding primitive_mesh listed_coord face_list stretch_runs primitive_run primitive_of places_of primitive_count stretches rest_of coord_in header_of counts_of edition_of edition1 field entries tab place_of list_at list_size widths words_in settings_of crease_of convex_frame faces_of runs_from ends_run face_of kept all_below corner_of corner_by normal_of colour_of number_at number_in chosen itself value_at texture_by uv_words fit_of fitting fit_by sorted insert divisor axis_by span_of widened coord_of default_at min_of max_of choice is_zero negative magnitude is_nan mesh vertices keys_of key_of corner_normal generated or_else incident hits_of hits crease_sum facing outline spots spot newell newell_from handed indices_of face_indices locals wound triangles face_tris projection projected axis_of flip_of ear_clip ear_clip_by clip goes first_ear is_ear blocks point_in_tri cross2 remove fan fan_from order turned turn is_reversed area area_term any first run mesh_of mended mend_by or_words renorm point_words join_n map_n firsts meet has place same_key same_words flat unit_of vlen root_of of_bits to_bits add sub mul div neg lt le
strip_set_row = refl

-- vertices by first meeting
pub strip_set_sources : (primitive_mesh white Strips strip_set).sources ≡ 0 ∷ 1 ∷ 3 ∷ 2 ∷ []
unfolding primitive_mesh listed_coord face_list stretch_runs primitive_run primitive_of places_of primitive_count stretches rest_of coord_in header_of counts_of edition_of edition1 field entries tab place_of list_at list_size widths words_in settings_of crease_of convex_frame faces_of runs_from ends_run face_of kept all_below corner_of corner_by normal_of colour_of number_at number_in chosen itself value_at texture_by uv_words fit_of fitting fit_by sorted insert divisor axis_by span_of widened coord_of default_at min_of max_of choice is_zero negative magnitude is_nan mesh vertices keys_of key_of corner_normal generated or_else incident hits_of hits crease_sum facing outline spots spot newell newell_from handed indices_of face_indices locals wound triangles face_tris projection projected axis_of flip_of ear_clip ear_clip_by clip goes first_ear is_ear blocks point_in_tri cross2 remove fan fan_from order turned turn is_reversed area area_term any first run mesh_of mended mend_by or_words renorm point_words join_n map_n firsts meet has place same_key same_words flat unit_of vlen root_of of_bits to_bits add sub mul div neg lt le
strip_set_sources = refl

-- a fan, though convex is off: ears would begin with the last corner
pub quad_set_row : (primitive_mesh white Quads quad_set).indices ≡ 0 ∷ 1 ∷ 2 ∷ 0 ∷ 2 ∷ 3 ∷ []
unfolding around primitive_mesh listed_coord face_list stretch_runs primitive_run primitive_of places_of primitive_count stretches rest_of coord_in header_of counts_of edition_of edition1 field entries tab place_of list_at list_size widths words_in settings_of crease_of convex_frame faces_of runs_from ends_run face_of kept all_below corner_of corner_by normal_of colour_of number_at number_in chosen itself value_at texture_by uv_words fit_of fitting fit_by sorted insert divisor axis_by span_of widened coord_of default_at min_of max_of choice is_zero negative magnitude is_nan mesh vertices keys_of key_of corner_normal generated or_else incident hits_of hits crease_sum facing outline spots spot newell newell_from handed indices_of face_indices locals wound triangles face_tris projection projected axis_of flip_of ear_clip ear_clip_by clip goes first_ear is_ear blocks point_in_tri cross2 remove fan fan_from order turned turn is_reversed area area_term any first run mesh_of mended mend_by or_words renorm point_words join_n map_n firsts meet has place same_key same_words flat unit_of vlen root_of of_bits to_bits add sub mul div neg lt le
quad_set_row = refl
