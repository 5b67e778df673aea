-- Rows of whole blocks, computed: the bench's grid, an extrusion of a triangle, line sets.
use Prim.Native.Nat.{ℕ, ◌+◌, ◌*◌}
use mathlib.Core.Path.{◌≡◌, refl}
use mathlib.Core.Bool.{true, false}
use mathlib.Core.List.{List, [], ◌∷◌, ◌++◌, map}
use lib.ListN.{length}
use lib.Ieee.{binary32, of_int, of_bits, to_bits, is_nan, add, sub, mul, div, neg, lt, le, eq}
use Rattle.bits.specs.Bits.{field, entries, bytes_of}
use Rattle.bits.specs.declared.Words2.{Words2}
use Rattle.bits.specs.declared.Words4.{Words4}
use Rattle.math.specs.declared.vector.V3.{V3}
use Rattle.math.specs.Vector.{vlen, unit_of}
use Rattle.math.specs.SquareRoot.{root_of}
use Rattle.math.specs.Order.{magnitude, is_zero, negative, choice, min_of, max_of}
use Rattle.math.specs.Quaternion.{axis_turn, half_turn, shortest_arc, turn_to, between}
use Rattle.block.specs.declared.crease.CreaseRule.TheVariants.{Own}
use Rattle.block.specs.declared.header.Header.{Header}
use Rattle.block.specs.Edition.{edition1, edition_of}
use Rattle.block.specs.Header.{counts_of, header_of}
use Rattle.block.specs.Extents.{widths, words_in, list_at, list_size, place_of}
use Rattle.block.specs.Crease.{crease_of}
use Rattle.block.specs.Settings.{pair_or, finite_transform, transform_of, settings_of}
use Rattle.block.specs.Runs.{ends_run, runs_from, sum_over}
use Rattle.block.specs.Stream.{itself, number_in, number_at}
use Rattle.block.specs.declared.texture.Pair.{Pair}
use Rattle.block.specs.Texture.{pair_of, uv_words}
use Rattle.block.specs.Value.{value_at}
use Rattle.block.proofs.TableRows.{grid_header, grid_rest, grid}
use Rattle.lists.specs.Loops.{tab}
use Rattle.lists.specs.Lists.{map_n, join_n, has, place, meet, firsts, same_words, flat, tabs}
use Rattle.mesh.specs.Words.{words3, no2, no3, no4, floats, bits, point_words}
use Rattle.mesh.specs.Soup.{Corner, gathered, points_of, Frame}
use Rattle.mesh.specs.Vertices.{same_key}
use Rattle.mesh.specs.Normals.{or_else}
use Rattle.mesh.specs.Mesh.{Mesh, slices_of}
use Rattle.mesh.specs.Texture.{widened, span_of, divisor}
use Rattle.mesh.specs.FaceSet.{rest_of, coord_in, normal_of, colour_of, texture_by, corner_by, convex_frame}
use Rattle.mesh.specs.Quads.{quad}
use Rattle.mesh.specs.Grid.{grid_point, grid_points, grid_of, grid_default, grid_corner, grid_face, grid_faces, grid_mesh}
use Rattle.mesh.specs.Frames.{Axes, at, first_of, last_of, closed, along_end, y_own, first_y, y_at, bend, z_end, z_own, first_z, pick_z, prev_z, upright, bent, straight, axes_at}
use Rattle.mesh.specs.SourceFrames.{forward, backward, first, ys, z_raw, copy_ends, zs, walk, source_frames}
use Rattle.mesh.specs.Arcs.{at2, arcs2, arcs3, length_to, share, arcs, step3, step2}
use Rattle.mesh.specs.Extrusion.{twos, section_of, extrusion_of, turn_in, scale_at, turn_at, local, placed, row_words, row_at, extrusion_points, side_texture, cap_fit, cap_texture, corner_at, side_corner, cap_corner, sides, closes, ring_of, cap_length, cap_face, caps, extrusion_faces}
use Rattle.mesh.specs.Lines.{somes, joined, item_of, items_of, line_keys, line_ends, line_vertices, line_indices, lines_of, line_set_mesh}
use Rattle.mesh.specs.Sizes.{Sizes, named, lines_after, line_set_sizes, grid_sizes, extrusion_sizes, sizes_of, is_no_shape, is_over_corners}
use Rattle.mesh.specs.Result.{block_mesh, made_of, made}
use Rattle.mesh.proofs.Sample.{end, w1, v}
use Rattle.mesh.proofs.Rows.{rows}

abbrev w2 : ℕ
w2 = 0x4000_0000

abbrev minus1 : ℕ
minus1 = 0xbf80_0000

abbrev st : ℕ → ℕ → Words2
st s t = record { s = s; t = t }

-- a missing colour
abbrev white : Words4
white = record { r = w1; g = w1; b = w1; a = w1 }

-- ---- FORMAT 14: the 2 by 2 grid, its heights 0

abbrev bench : List ℕ
bench = grid grid_header

abbrev flat_frame : Frame
flat_frame = record { points = 0 ∷ 0 ∷ 0 ∷ w1 ∷ 0 ∷ 0 ∷ 0 ∷ 0 ∷ w1 ∷ w1 ∷ 0 ∷ w1 ∷ []; ccw = true; convex = true; supplied = false; crease = Own }

abbrev plain : ℕ → Corner
plain p = record { point = p; gather = p; given = no3; colour = no4; texture = no2 }

pub grid_soup : (convex_frame (grid_of bench) ≡ flat_frame)
    × (grid_faces white (grid_of bench) ≡ (plain 0 ∷ plain 2 ∷ plain 3 ∷ plain 1 ∷ []) ∷ [])
    × (sizes_of bench (header_of bench) ≡ record { points = 4; corners = 4; indices = 6 })
    × (is_no_shape (header_of bench) ≡ false)
    × (is_over_corners bench (header_of bench) ≡ false)
unfolding grid grid_header grid_rest convex_frame grid_of grid_points grid_point grid_faces grid_face grid_corner corner_by texture_by normal_of colour_of tabs tab flat quad header_of counts_of edition_of edition1 settings_of transform_of finite_transform pair_or crease_of place_of list_at list_size widths words_in entries field of_int of_bits to_bits mul le sizes_of grid_sizes is_no_shape is_over_corners
grid_soup = (refl, refl, refl, refl, refl)

abbrev bench_mesh : Mesh
bench_mesh = record {
  sources = 0 ∷ 2 ∷ 3 ∷ 1 ∷ [];
  positions = v 0 0 0 ∷ v 0 0 w1 ∷ v w1 0 w1 ∷ v w1 0 0 ∷ [];
  normals = v 0 w1 0 ∷ v 0 w1 0 ∷ v 0 w1 0 ∷ v 0 w1 0 ∷ [];
  colours = no4 ∷ no4 ∷ no4 ∷ no4 ∷ [];
  textures = no2 ∷ no2 ∷ no2 ∷ no2 ∷ [];
  indices = 0 ∷ 1 ∷ 2 ∷ 0 ∷ 2 ∷ 3 ∷ [];
}

pub grid_mesh_lem : grid_mesh white bench ≡ bench_mesh
unfolding grid_mesh flat
grid_mesh_lem = rw (grid_soup.0, grid_soup.1) rows.0

-- ---- a 3 by 2 grid with spacings 2 and -1, a colour for each quad of which one is listed, and texture wanted; the first height is a NaN

abbrev slope : List ℕ
slope =
    bytes_of ((0x154a_0000 ∷ 0xc002_0004 ∷ 0x0060_0000 ∷ 0x0000_0000 ∷ 0x0000_0000 ∷ [])
    ++ ((0 ∷ w1 ∷ w2 ∷ minus1 ∷ 0 ∷ 0 ∷ 0 ∷ w1 ∷ w1 ∷ w1 ∷ 0 ∷ 0 ∷ []) ++ ((w1 ∷ 0 ∷ 0 ∷ []) ++ (0x7fc0_0001 ∷ 0 ∷ 0 ∷ 0 ∷ 0 ∷ w1 ∷ []))))

abbrev half : ℕ
half = 0x3f00_0000

abbrev red : Words4
red = record { r = w1; g = 0; b = 0; a = w1 }

abbrev tinted : Words4 → ℕ → Words2 → Corner
tinted c p t = record { point = p; gather = p; given = no3; colour = c; texture = t }

pub slope_soup : ((grid_of slope).points
    ≡ 0 ∷ 0x7fc0_0001 ∷ 0x8000_0000 ∷ w2 ∷ 0 ∷ 0x8000_0000 ∷ 0x4080_0000 ∷ 0 ∷ 0x8000_0000 ∷ 0 ∷ 0 ∷ minus1 ∷ w2 ∷ 0 ∷ minus1 ∷ 0x4080_0000 ∷ w1 ∷ minus1 ∷ [])
    × (grid_faces white (grid_of slope)
    ≡ (tinted red 0 (st 0 w1) ∷ tinted red 3 (st 0 0) ∷ tinted red 4 (st half 0) ∷ tinted red 1 (st half w1) ∷ [])
    ∷ (tinted white 1 (st half w1) ∷ tinted white 4 (st half 0) ∷ tinted white 5 (st w1 0) ∷ tinted white 2 (st w1 w1) ∷ [])
    ∷ [])
    × (sizes_of slope (header_of slope) ≡ record { points = 6; corners = 8; indices = 12 })
unfolding grid_of grid_points grid_point grid_faces grid_face grid_corner grid_default corner_by texture_by normal_of colour_of uv_words number_at number_in itself value_at tabs tab flat quad header_of counts_of edition_of edition1 settings_of transform_of finite_transform pair_or crease_of place_of list_at list_size widths words_in entries field of_int of_bits to_bits sub mul div le sizes_of grid_sizes
slope_soup = (refl, refl, refl)

-- FORMAT 5: neither colours nor texture are made of the bench's grid
pub made_row : made white bench
    ≡ record {
      sources = 0 ∷ 2 ∷ 3 ∷ 1 ∷ [];
      positions = 0 ∷ 0 ∷ 0 ∷ 0 ∷ 0 ∷ w1 ∷ w1 ∷ 0 ∷ w1 ∷ w1 ∷ 0 ∷ 0 ∷ [];
      normals = 0 ∷ w1 ∷ 0 ∷ 0 ∷ w1 ∷ 0 ∷ 0 ∷ w1 ∷ 0 ∷ 0 ∷ w1 ∷ 0 ∷ [];
      colours = [];
      textures = [];
      indices = 0 ∷ 1 ∷ 2 ∷ 0 ∷ 2 ∷ 3 ∷ [];
    }
unfolding made made_of block_mesh slices_of flat grid grid_header grid_rest header_of counts_of edition_of edition1 field
made_row = rw grid_mesh_lem refl

-- ---- FORMAT 3, 6: a 3 by 2 grid of 5 heights and of 7, sides of 1, a spine and a cross-section of 1, and an empty face set

abbrev headed : ℕ → ℕ → ℕ → Header
headed a b c = header_of (bytes_of (a ∷ b ∷ c ∷ 0 ∷ 0 ∷ []))

pub shape_rows_lem : (is_no_shape (headed 0x1400_0000 0xc002_0000 0x0050_0000) ≡ true)
    × (is_no_shape (headed 0x1400_0000 0xc002_0000 0x0070_0000) ≡ false)
    × (is_no_shape (headed 0x1400_0000 0xc001_0000 0x0070_0000) ≡ true)
    × (is_no_shape (headed 0x1400_0000 0x4003_0000 0x0070_0000) ≡ true)
    × (is_no_shape (headed 0x1600_0000 0x4002_0000 0) ≡ true)
    × (is_no_shape (headed 0x1600_0000 0x8001_0000 0) ≡ true)
    × (is_no_shape (headed 0x1000_0000 0 0) ≡ false)
unfolding is_no_shape header_of counts_of edition_of edition1 field flat
shape_rows_lem = (refl, refl, refl, refl, refl, refl, refl)

-- ---- an extrusion: 2 spine points, a triangle, both caps; and a closed one, with texture wanted

-- the twelve words: crease angle 0, spacing 1, a transform that changes nothing
abbrev twelve : List ℕ
twelve = 0 ∷ w1 ∷ w1 ∷ w1 ∷ 0 ∷ 0 ∷ 0 ∷ w1 ∷ w1 ∷ w1 ∷ 0 ∷ 0 ∷ []

abbrev spine_up : List ℕ
spine_up = 0 ∷ 0 ∷ 0 ∷ 0 ∷ w1 ∷ 0 ∷ []

abbrev triangle : List ℕ
triangle = 0 ∷ 0 ∷ w1 ∷ 0 ∷ 0 ∷ w1 ∷ []

abbrev prism : List ℕ
prism = bytes_of ((0x17c0_3000 ∷ 0x8003_0000 ∷ 0 ∷ 0 ∷ 0 ∷ []) ++ (twelve ++ (spine_up ++ triangle)))

abbrev closed_prism : List ℕ
closed_prism = bytes_of ((0x17c8_3000 ∷ 0x8004_0000 ∷ 0 ∷ 0 ∷ 0 ∷ []) ++ (twelve ++ (spine_up ++ (0 ∷ 0 ∷ w1 ∷ 0 ∷ 0 ∷ w2 ∷ 0 ∷ 0 ∷ []))))

-- the points go along the spine row by row; the begin cap is the other way round
pub prism_soup : (extrusion_points (extrusion_of prism)
    ≡ 0 ∷ 0 ∷ 0 ∷ w1 ∷ 0 ∷ 0 ∷ 0 ∷ 0 ∷ w1 ∷ 0 ∷ w1 ∷ 0 ∷ w1 ∷ w1 ∷ 0 ∷ 0 ∷ w1 ∷ w1 ∷ [])
    × (extrusion_faces (extrusion_of prism)
    ≡ map (map plain) ((0 ∷ 1 ∷ 4 ∷ 3 ∷ []) ∷ (1 ∷ 2 ∷ 5 ∷ 4 ∷ []) ∷ (2 ∷ 1 ∷ 0 ∷ []) ∷ (3 ∷ 4 ∷ 5 ∷ []) ∷ []))
    × (sizes_of prism (header_of prism) ≡ record { points = 6; corners = 14; indices = 18 })
    × (is_no_shape (header_of prism) ≡ false)
unfolding extrusion_points row_at row_words extrusion_of section_of turn_in scale_at turn_at local placed at axes_at first_y y_at first_z first_of last_of y_own along_end closed z_own z_end bend prev_z pick_z or_else straight between turn_to half_turn shortest_arc unit_of vlen root_of extrusion_faces sides caps cap_face cap_length closes ring_of gathered side_corner cap_corner corner_at at2 tabs tab flat quad header_of counts_of edition_of edition1 settings_of transform_of finite_transform pair_or crease_of place_of list_at list_size widths words_in field of_int of_bits to_bits add sub mul div neg lt le eq sizes_of extrusion_sizes is_no_shape
prism_soup = (refl, refl, refl, refl)

-- parts of the triangle's outline: 1 and 1 + √5 of 3 + √5
abbrev a1 : ℕ
a1 = 0x3e43_910d

abbrev a2 : ℕ
a2 = 0x3f1e_377a

-- the closing point is in no cap, and both directions are divided by the larger extent, 2; t is written as 1 - t
pub prism_texture : map (map (λ (c : Corner). c.texture)) (extrusion_faces (extrusion_of closed_prism))
    ≡ (st 0 w1 ∷ st a1 w1 ∷ st a1 0 ∷ st 0 0 ∷ [])
    ∷ (st a1 w1 ∷ st a2 w1 ∷ st a2 0 ∷ st a1 0 ∷ [])
    ∷ (st a2 w1 ∷ st w1 w1 ∷ st w1 0 ∷ st a2 0 ∷ [])
    ∷ (st 0 0 ∷ st half w1 ∷ st 0 w1 ∷ [])
    ∷ (st 0 w1 ∷ st half w1 ∷ st 0 0 ∷ [])
    ∷ []
unfolding extrusion_of section_of at extrusion_faces sides caps cap_face cap_length closes side_corner cap_corner corner_at side_texture cap_texture cap_fit uv_words arcs share length_to step3 step2 widened span_of divisor min_of max_of choice is_zero negative is_nan at2 tabs tab flat quad vlen root_of header_of counts_of edition_of edition1 settings_of transform_of finite_transform pair_or crease_of place_of list_at list_size widths words_in field of_int of_bits to_bits add sub mul div lt le eq
prism_texture = refl

-- the last column, points 3 and 7, is gathered by the first's numbers, 0 and 4; the points are its own
pub prism_seam : (map (map (λ (c : Corner). c.gather)) (extrusion_faces (extrusion_of closed_prism))
    ≡ (0 ∷ 1 ∷ 5 ∷ 4 ∷ []) ∷ (1 ∷ 2 ∷ 6 ∷ 5 ∷ []) ∷ (2 ∷ 0 ∷ 4 ∷ 6 ∷ []) ∷ (2 ∷ 1 ∷ 0 ∷ []) ∷ (4 ∷ 5 ∷ 6 ∷ []) ∷ [])
    × (map points_of (extrusion_faces (extrusion_of closed_prism))
    ≡ (0 ∷ 1 ∷ 5 ∷ 4 ∷ []) ∷ (1 ∷ 2 ∷ 6 ∷ 5 ∷ []) ∷ (2 ∷ 3 ∷ 7 ∷ 6 ∷ []) ∷ (2 ∷ 1 ∷ 0 ∷ []) ∷ (4 ∷ 5 ∷ 6 ∷ []) ∷ [])
unfolding extrusion_of section_of extrusion_faces sides caps cap_face cap_length closes ring_of gathered side_corner cap_corner corner_at at2 tabs tab flat quad header_of counts_of edition_of edition1 place_of list_at list_size widths words_in field of_bits eq
prism_seam = (refl, refl)

-- FORMAT 8.4: more than two points; -0 equals 0; a NaN equals nothing, not itself, and elsewhere prevents nothing
abbrev pairs : List ℕ → ℕ → List Pair
pairs ws n = twos (bytes_of ws) n

pub closing_rows : (closes (pairs (0 ∷ w1 ∷ 0 ∷ w1 ∷ []) 2) ≡ false)
    × (closes (pairs (0 ∷ 0 ∷ w1 ∷ 0 ∷ 0x8000_0000 ∷ 0 ∷ []) 3) ≡ true)
    × (closes (pairs (0x7fc0_0000 ∷ 0 ∷ w1 ∷ 0 ∷ 0x7fc0_0000 ∷ 0 ∷ []) 3) ≡ false)
    × (closes (pairs (0 ∷ 0 ∷ 0x7fc0_0000 ∷ 0 ∷ 0 ∷ 0 ∷ []) 3) ≡ true)
    × (closes (pairs (0 ∷ 0 ∷ w1 ∷ 0 ∷ 0 ∷ w1 ∷ []) 3) ≡ false)
unfolding closes at2 tab field of_bits to_bits eq
closing_rows = (refl, refl, refl, refl, refl)

-- ---- points along other spines, as the source makes them

abbrev p3 : ℕ → ℕ → ℕ → V3
p3 a b c = floats (v a b c)

abbrev p2 : ℕ → ℕ → Pair
p2 a b = pair_of (st a b)

abbrev w3 : ℕ
w3 = 0x4040_0000

-- a stroke from (0, 0) to (1, 0), without orientations
abbrev swept : List V3 → List Pair → List ℕ
swept sp scs =
    extrusion_points (record { head = header_of []; settings = settings_of []; spine = sp; section = p2 0 0 ∷ p2 w1 0 ∷ []; scales = scs; turns = [] })

-- a spine that bends one way and then the other: the Z axis is turned over
abbrev zigzag : List V3
zigzag = p3 0 0 0 ∷ p3 0 w1 0 ∷ p3 w1 w2 0 ∷ p3 w1 w3 0 ∷ []

-- a straight one, whose third point takes the first of two scales
abbrev upwards : List V3
upwards = p3 0 0 0 ∷ p3 0 w1 0 ∷ p3 0 w2 0 ∷ []

-- one along -Y: half a turn
abbrev downwards : List V3
downwards = p3 0 0 0 ∷ p3 0 minus1 0 ∷ []

-- there and back: closed, and no point has a Y axis
abbrev back : List V3
back = p3 0 0 0 ∷ p3 0 0 w1 ∷ p3 0 0 0 ∷ []

pub swept_rows : (swept zigzag []
    ≡ 0 ∷ 0 ∷ 0 ∷ minus1 ∷ 0 ∷ 0 ∷ 0 ∷ w1 ∷ 0 ∷ 0xbf64_f92e ∷ 0x3fb9_3e4c ∷ 0 ∷ w1 ∷ w2 ∷ 0 ∷ 0x3dd8_3690 ∷ 0x401c_9f26 ∷ 0 ∷ w1 ∷ w3 ∷ 0 ∷ 0 ∷ w3 ∷ 0 ∷ [])
    × (swept upwards (p2 w3 w3 ∷ p2 0x40a0_0000 0x40a0_0000 ∷ [])
    ≡ 0 ∷ 0 ∷ 0 ∷ w3 ∷ 0 ∷ 0 ∷ 0 ∷ w1 ∷ 0 ∷ 0x40a0_0000 ∷ w1 ∷ 0 ∷ 0 ∷ w2 ∷ 0 ∷ w3 ∷ w2 ∷ 0 ∷ [])
    × (swept downwards [] ≡ 0 ∷ 0 ∷ 0 ∷ minus1 ∷ 0 ∷ 0 ∷ 0 ∷ minus1 ∷ 0 ∷ minus1 ∷ minus1 ∷ 0 ∷ [])
    × (swept back [] ≡ 0 ∷ 0 ∷ 0 ∷ w1 ∷ 0 ∷ 0 ∷ 0 ∷ 0 ∷ w1 ∷ w1 ∷ 0 ∷ w1 ∷ 0 ∷ 0 ∷ 0 ∷ w1 ∷ 0 ∷ 0 ∷ [])
unfolding extrusion_points row_at row_words scale_at turn_at local placed at axes_at first_y y_at first_z first_of last_of y_own along_end closed z_own z_end bend prev_z pick_z or_else upright bent straight between turn_to half_turn shortest_arc unit_of vlen root_of magnitude tab flat of_bits to_bits add sub mul div neg lt eq
swept_rows = (refl, refl, refl, refl)

-- ---- the axes along spines that stop, twist and close, as the source makes them

abbrev minus0 : ℕ
minus0 = 0x8000_0000

abbrev r2 : ℕ
r2 = 0x3f35_04f3

abbrev minus_r2 : ℕ
minus_r2 = 0xbf35_04f3

abbrev axes_words : Axes → List ℕ
axes_words a = words3 (bits a.x) ++ (words3 (bits a.y) ++ words3 (bits a.z))

-- three equal points at the start, and three more: Y axes are taken from after and from before
abbrev stops : List V3
stops = p3 0 0 0 ∷ p3 0 0 0 ∷ p3 0 0 0 ∷ p3 w1 0 0 ∷ p3 w1 w1 0 ∷ p3 w1 w1 0 ∷ p3 w1 w1 0 ∷ p3 w1 w2 w1 ∷ []

-- three points in a line at the start, in the middle and at the end: Z axes are taken from after and from before, turned over and straightened
abbrev twist : List V3
twist = p3 0 0 0 ∷ p3 0 w1 0 ∷ p3 0 w2 0 ∷ p3 w1 w3 0 ∷ p3 w2 0x4080_0000 0 ∷ p3 w2 0x40a0_0000 w1 ∷ p3 w2 0x40c0_0000 w2 ∷ []

-- closed: the ends have neighbours across the seam
abbrev ring : List V3
ring = p3 0 0 0 ∷ p3 w1 0 0 ∷ p3 w1 w1 half ∷ p3 0 w1 0 ∷ p3 0 0 0 ∷ []

pub frame_rows : (flat (map axes_words (source_frames stops))
    ≡ 0 ∷ minus1 ∷ minus0 ∷ w1 ∷ 0 ∷ 0 ∷ 0 ∷ minus0 ∷ w1 ∷
    0 ∷ minus1 ∷ minus0 ∷ w1 ∷ 0 ∷ 0 ∷ 0 ∷ minus0 ∷ w1 ∷
    0 ∷ minus1 ∷ minus0 ∷ w1 ∷ 0 ∷ 0 ∷ 0 ∷ minus0 ∷ w1 ∷
    r2 ∷ minus_r2 ∷ minus0 ∷ r2 ∷ r2 ∷ 0 ∷ 0 ∷ minus0 ∷ w1 ∷
    w1 ∷ 0 ∷ minus0 ∷ 0 ∷ w1 ∷ 0 ∷ 0 ∷ minus0 ∷ w1 ∷
    w1 ∷ 0 ∷ minus0 ∷ 0 ∷ w1 ∷ 0 ∷ 0 ∷ minus0 ∷ w1 ∷
    0x3f7f_fffe ∷ 0 ∷ minus0 ∷ 0 ∷ r2 ∷ r2 ∷ 0 ∷ 0xbf35_04f2 ∷ r2 ∷
    0x3f7f_fffe ∷ 0 ∷ minus0 ∷ 0 ∷ r2 ∷ r2 ∷ 0 ∷ 0xbf35_04f2 ∷ r2 ∷ [])
    × (flat (map axes_words (source_frames twist))
    ≡ minus1 ∷ 0 ∷ 0 ∷ 0 ∷ w1 ∷ 0 ∷ 0 ∷ 0 ∷ minus1 ∷
    minus1 ∷ 0 ∷ 0 ∷ 0 ∷ w1 ∷ 0 ∷ 0 ∷ 0 ∷ minus1 ∷
    0xbf64_f92e ∷ 0x3ee4_f92e ∷ 0 ∷ 0x3ee4_f92e ∷ 0x3f64_f92e ∷ 0 ∷ 0 ∷ 0 ∷ minus1 ∷
    minus_r2 ∷ r2 ∷ 0 ∷ r2 ∷ r2 ∷ 0 ∷ 0 ∷ 0 ∷ minus1 ∷
    0xbf35_04f4 ∷ 0 ∷ 0x3f35_04f4 ∷ 0x3ed1_05eb ∷ 0x3f51_05eb ∷ 0x3ed1_05eb ∷ 0xbf13_cd3b ∷ 0x3f13_cd3b ∷ 0xbf13_cd3b ∷
    0xbf51_05ec ∷ 0xbed1_05ec ∷ 0x3ed1_05ec ∷ 0 ∷ r2 ∷ r2 ∷ 0xbf13_cd3b ∷ 0x3f13_cd3b ∷ 0xbf13_cd3b ∷
    0xbf51_05ec ∷ 0xbed1_05ec ∷ 0x3ed1_05ec ∷ 0 ∷ r2 ∷ r2 ∷ 0xbf13_cd3b ∷ 0x3f13_cd3b ∷ 0xbf13_cd3b ∷ [])
    × (flat (map axes_words (source_frames ring))
    ≡ minus_r2 ∷ minus_r2 ∷ 0 ∷ r2 ∷ minus_r2 ∷ 0 ∷ 0 ∷ 0 ∷ w1 ∷
    0x3f3e_cfa8 ∷ 0xbf18_a620 ∷ 0xbe98_a620 ∷ 0x3f2a_aaab ∷ 0x3f2a_aaab ∷ 0x3eaa_aaab ∷ 0 ∷ 0xbee4_f930 ∷ 0x3f64_f930 ∷
    0x3f13_cd3b ∷ 0x3f13_cd3b ∷ 0x3f13_cd3b ∷ minus_r2 ∷ r2 ∷ 0 ∷ 0xbed1_05ed ∷ 0xbed1_05ed ∷ 0x3f51_05ed ∷
    0xbf18_a620 ∷ 0x3f3e_cfa8 ∷ 0xbe98_a620 ∷ 0xbf2a_aaab ∷ 0xbf2a_aaab ∷ 0xbeaa_aaab ∷ 0xbee4_f930 ∷ 0 ∷ 0x3f64_f930 ∷
    minus_r2 ∷ minus_r2 ∷ 0 ∷ r2 ∷ minus_r2 ∷ 0 ∷ 0 ∷ 0 ∷ w1 ∷ [])
unfolding source_frames ys zs z_raw copy_ends forward backward first walk closed at y_own along_end bend pick_z or_else upright bent unit_of vlen root_of tab flat of_bits to_bits add sub mul div neg lt eq
frame_rows = (refl, refl, refl)

-- each axis scaled by its own factor, and turned; a sine that is NaN turns nothing
pub turn_row : extrusion_points (record {
  head = header_of [];
  settings = settings_of [];
  spine = p3 0 0 0 ∷ p3 w1 w1 0 ∷ [];
  section = p2 w1 w2 ∷ [];
  scales = p2 w2 w3 ∷ [];
  turns = tab (turn_in (bytes_of (0 ∷ w2 ∷ 0 ∷ 0x3f19_999a ∷ 0x3f4c_cccd ∷ w1 ∷ 0 ∷ 0 ∷ 0x7fc0_0000 ∷ w1 ∷ []))) 2 0;
}) ≡ 0x408f_0159 ∷ 0xc08f_015b ∷ 0xbe75_c2a0 ∷ 0x401a_8279 ∷ 0xbed4_13d0 ∷ 0x40c0_0000 ∷ []
unfolding extrusion_points row_at row_words turn_in scale_at turn_at local placed at axes_at first_y y_at first_z first_of last_of y_own along_end closed z_own z_end bend prev_z pick_z or_else straight between turn_to half_turn shortest_arc axis_turn unit_of vlen root_of magnitude tab flat field of_bits to_bits add sub mul div neg lt eq
turn_row = refl

-- steps that are not finite count for nothing; no length at all goes by number
pub arc_rows : (map (to_bits binary32) (arcs2 (p2 0 0 ∷ p2 w1 0 ∷ p2 w1 0x7fc0_0000 ∷ p2 w1 w3 ∷ p2 w1 0x40c0_0000 ∷ [])) ≡ 0 ∷ 0x3e80_0000 ∷ 0x3e80_0000 ∷ 0x3e80_0000 ∷ w1 ∷ [])
    × (map (to_bits binary32) (arcs3 (p3 0 0 0 ∷ p3 0 0 0 ∷ p3 0 0 0 ∷ [])) ≡ 0 ∷ half ∷ w1 ∷ [])
unfolding arcs share length_to step3 step2 at at2 tab vlen root_of of_int of_bits to_bits add sub mul div lt flat
arc_rows = (refl, refl)

-- ---- line sets of 2 points

abbrev line_block : List ℕ → List ℕ
line_block es = bytes_of ((0x1200_0000 ∷ (0x8000_0000 + length es * 0x1_0000) ∷ 0 ∷ 0 ∷ 0 ∷ []) ++ (twelve ++ (spine_up ++ es)))

-- sources and indices, and the sizes
abbrev lined : List ℕ → List ℕ × List ℕ × Sizes
lined es = ((line_set_mesh white (line_block es)).sources, (line_set_mesh white (line_block es)).indices, sizes_of (line_block es) (header_of (line_block es)))

-- entry 9 breaks the line; a line from a point to itself; a single entry
pub line_rows : (lined (0 ∷ 1 ∷ 9 ∷ 1 ∷ 0 ∷ []) ≡ (0 ∷ 1 ∷ [], 0 ∷ 1 ∷ 1 ∷ 0 ∷ [], record { points = 2; corners = 4; indices = 4 }))
    × (lined (1 ∷ 1 ∷ []) ≡ (1 ∷ [], 0 ∷ 0 ∷ [], record { points = 2; corners = 2; indices = 2 }))
    × (lined (1 ∷ []) ≡ (1 ∷ [], [], record { points = 2; corners = 1; indices = 0 }))
unfolding line_set_mesh lines_of line_vertices line_indices line_keys line_ends items_of item_of somes joined rest_of coord_in colour_of join_n map_n firsts meet has place same_key same_words runs_from ends_run header_of counts_of edition_of edition1 place_of list_at list_size widths words_in entries tab field sizes_of line_set_sizes named lines_after sum_over flat
line_rows = (refl, refl, refl)

-- a colour for each line: the empty run has number 0, so that the line has the second colour
abbrev coloured : List ℕ
coloured = bytes_of ((0x1202_0000 ∷ 0x8003_0008 ∷ 0 ∷ 0 ∷ 0 ∷ []) ++ (twelve ++ (spine_up ++ ((end ∷ 0 ∷ 1 ∷ []) ++ (w1 ∷ 0 ∷ 0 ∷ 0 ∷ w1 ∷ 0 ∷ [])))))

abbrev green : Words4
green = record { r = 0; g = w1; b = 0; a = w1 }

pub line_colours : line_set_mesh white coloured
    ≡ record { sources = 0 ∷ 1 ∷ []; positions = v 0 0 0 ∷ v 0 w1 0 ∷ []; normals = []; colours = green ∷ green ∷ []; textures = []; indices = 0 ∷ 1 ∷ [] }
unfolding line_set_mesh lines_of line_vertices line_indices line_keys line_ends items_of item_of somes joined rest_of coord_in colour_of number_at number_in itself value_at point_words join_n map_n firsts meet has place same_key same_words runs_from ends_run header_of counts_of edition_of edition1 place_of list_at list_size widths words_in entries tab field flat
line_colours = refl
