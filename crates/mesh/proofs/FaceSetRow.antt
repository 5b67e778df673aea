-- A whole block, from its bytes to its mesh: a square clipped into ears, a run that is skipped, and a triangle whose colour is missing, since skipped runs
-- count; default texture.
use mathlib.Core.Path.{◌≡◌, refl}
use mathlib.Core.List.{List, [], ◌∷◌, ◌++◌}
use Prim.Native.Nat.{ℕ}
use lib.Ieee.{of_bits, to_bits, add, sub, mul, div, neg, lt, le, is_nan}
use Rattle.bits.specs.Bits.{field, entries, bytes_of}
use Rattle.bits.specs.declared.Words2.{Words2}
use Rattle.bits.specs.declared.Words4.{Words4}
use Rattle.math.specs.Vector.{vlen, unit_of}
use Rattle.math.specs.SquareRoot.{root_of}
use Rattle.math.specs.Order.{is_zero, negative, magnitude, choice, min_of, max_of}
use Rattle.lists.specs.Loops.{any, tab, run, first}
use Rattle.polygon.specs.Points.{spot, spots}
use Rattle.polygon.specs.Facing.{newell_from, newell}
use Rattle.polygon.specs.Plane.{handed, axis_of, flip_of, projected, projection}
use Rattle.polygon.specs.Ears.{fan_from, fan, cross2, point_in_tri, blocks, is_ear, first_ear, goes, clip, area_term, area, is_reversed, place as turned, order, turn, ear_clip_by, ear_clip}
use Rattle.polygon.specs.Face.{face_tris, triangles}
use Rattle.block.specs.Edition.{edition1, edition_of}
use Rattle.block.specs.Header.{counts_of, header_of}
use Rattle.block.specs.Extents.{widths, words_in, list_at, list_size, place_of}
use Rattle.block.specs.Settings.{settings_of}
use Rattle.block.specs.Crease.{crease_of}
use Rattle.block.specs.Texture.{uv_words}
use Rattle.block.specs.Runs.{ends_run, runs_from, kept}
use Rattle.block.specs.Stream.{itself, chosen, number_in, number_at}
use Rattle.block.specs.Value.{value_at}
use Rattle.lists.specs.Lists.{map_n, join_n, has, place, meet, firsts, same_words, flat, all_below, remove}
use Rattle.mesh.specs.Words.{point_words}
use Rattle.mesh.specs.Normals.{outline, facing, hits, hits_of, incident, crease_sum, or_else, generated, corner_normal}
use Rattle.mesh.specs.Vertices.{same_key, key_of, keys_of, vertices, wound, locals, face_indices, indices_of}
use Rattle.mesh.specs.Mend.{or_words, renorm, mend_by, mended}
use Rattle.mesh.specs.Mesh.{mesh_of, mesh}
use Rattle.mesh.specs.Texture.{coord_of, widened, span_of, axis_by, insert, sorted, divisor, fit_by, fitting, fit_of, default_at}
use Rattle.mesh.specs.FaceSet.{rest_of, coord_in, normal_of, colour_of, texture_by, corner_by, corner_of, face_of, faces_of, frame_of, face_set_mesh}
use Rattle.mesh.proofs.Sample.{end, w1, v}

-- ccw, solid, texture wanted, colours for each face; 4 points, 12 entries, 2 colours
abbrev bytes : List ℕ
bytes =
    (17 ∷ 74 ∷ 0 ∷ 1 ∷ 0 ∷ 12 ∷ 0 ∷ 8 ∷ 0 ∷ 0 ∷ 0 ∷ 0 ∷ 0 ∷ 0 ∷ 0 ∷ 0 ∷ 0 ∷ 0 ∷ 0 ∷ 0 ∷ [])
    ++ bytes_of
    ((0 ∷ w1 ∷ w1 ∷ w1 ∷ 0 ∷ 0 ∷ 0 ∷ w1 ∷ w1 ∷ w1 ∷ 0 ∷ 0 ∷ [])
    ++ ((0 ∷ 0 ∷ 0 ∷ w1 ∷ 0 ∷ 0 ∷ w1 ∷ w1 ∷ 0 ∷ 0 ∷ w1 ∷ 0 ∷ [])
    ++ ((0 ∷ 1 ∷ 2 ∷ 3 ∷ end ∷ 0 ∷ 9 ∷ end ∷ 0 ∷ 2 ∷ 1 ∷ end ∷ []) ++ (w1 ∷ 0 ∷ 0 ∷ 0 ∷ w1 ∷ 0 ∷ []))))

abbrev uv : ℕ → ℕ → Words2
uv s t = record { s = s; t = t }

abbrev red : Words4
red = record { r = w1; g = 0; b = 0; a = w1 }

-- the colour of a missing entry
abbrev white : Words4
white = record { r = w1; g = w1; b = w1; a = w1 }

abbrev down : ℕ
down = 0xbf80_0000

pub face_set_row : face_set_mesh white bytes ≡ record {
  sources = 0 ∷ 1 ∷ 2 ∷ 3 ∷ 0 ∷ 2 ∷ 1 ∷ [];
  positions = v 0 0 0 ∷ v w1 0 0 ∷ v w1 w1 0 ∷ v 0 w1 0 ∷ v 0 0 0 ∷ v w1 w1 0 ∷ v w1 0 0 ∷ [];
  normals = v 0 0 w1 ∷ v 0 0 w1 ∷ v 0 0 w1 ∷ v 0 0 w1 ∷ v 0 0 down ∷ v 0 0 down ∷ v 0 0 down ∷ [];
  colours = red ∷ red ∷ red ∷ red ∷ white ∷ white ∷ white ∷ [];
  textures = uv 0 w1 ∷ uv w1 w1 ∷ uv w1 0 ∷ uv 0 0 ∷ uv 0 w1 ∷ uv w1 0 ∷ uv w1 w1 ∷ [];
  indices = 3 ∷ 0 ∷ 1 ∷ 1 ∷ 2 ∷ 3 ∷ 4 ∷ 5 ∷ 6 ∷ [];
}
unfolding face_set_mesh rest_of coord_in header_of counts_of edition_of edition1 field entries tab place_of list_at list_size widths words_in settings_of crease_of frame_of faces_of runs_from ends_run face_of kept all_below corner_of corner_by normal_of colour_of number_at number_in chosen itself value_at texture_by uv_words fit_of fitting fit_by sorted insert divisor axis_by span_of widened coord_of default_at min_of max_of choice is_zero negative magnitude is_nan mesh vertices keys_of key_of corner_normal generated or_else incident hits_of hits crease_sum facing outline spots spot newell newell_from handed indices_of face_indices locals wound triangles face_tris projection projected axis_of flip_of ear_clip ear_clip_by clip goes first_ear is_ear blocks point_in_tri cross2 remove fan fan_from order turned turn is_reversed area area_term any first run mesh_of mended mend_by or_words renorm point_words join_n map_n firsts meet has place same_key same_words flat unit_of vlen root_of of_bits to_bits add sub mul div neg lt le
face_set_row = refl
