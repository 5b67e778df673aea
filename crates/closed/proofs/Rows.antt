-- FORMAT 18, worked: a tetrahedron, the same without one of its faces, a cube as a face set, with ccw off, and as a quad set, a face of NaN points that names one
-- of them twice; a grid, and a mast whose outline closes. Calls on the sets that are lent enough are accepted, so what the theorem asks can be met.
use mathlib.Core.Path.{◌≡◌, refl, sym, ap, ◌∙◌}
use mathlib.Core.List.{List, [], ◌∷◌, ◌++◌}
use Prim.Native.Nat.{ℕ, ◌+◌, ◌*◌}
use native.Mathlib.Omega.{arith}
use lib.Ieee.{binary32, of_bits, eq}
use lib.ListN.{replicate}
use Rattle.bits.specs.Bits.{field, entries, bytes_of}
use Rattle.block.specs.Edition.{edition1, edition_of}
use Rattle.block.specs.Header.{counts_of, header_of}
use Rattle.block.specs.Extents.{widths, words_in, word_count, list_at, list_size, place_of}
use Rattle.block.specs.Refusal.{block_rows, first_of}
use Rattle.block.specs.Runs.{ends_run, runs_from, kept, corners, triangles, sum_over}
use Rattle.lists.specs.Loops.{tab}
use Rattle.lists.specs.Lists.{total, flat, tabs, all_below}
use Rattle.primitives.specs.Primitives.{stretches, primitive_count, places_of, primitive_of, primitive_run, stretch_runs, face_list}
use Rattle.polygon.specs.Edges.{tris, walk, around}
use Rattle.mesh.specs.Mesh.{Slices}
use Rattle.mesh.specs.Quads.{quad}
use Rattle.mesh.specs.Arcs.{at2}
use Rattle.mesh.specs.Extrusion.{section_of, closes, cap_length}
use Rattle.mesh.specs.Sizes.{face_set_sizes, primitive_sizes, sizes_of, is_no_shape, is_over_corners, shape_rows}
use Rattle.geometry.specs.declared.answer.Call.{Call}
use Rattle.geometry.specs.Answer.{rows, is_short, refusal}
use Rattle.geometry.specs.Converted.{Lending, lengths_of, number_for}
use Rattle.geometry.specs.Apart.{elements_of}
use Rattle.geometry.proofs.ApartRows.{call_of}
use Rattle.closed.specs.Outlines.{Outline, kept_runs, grid_outlines, row_outline, extrusion_outlines, outlines}
use Rattle.closed.specs.Edges.{triangles_of, edges_in, steps_in, gap, gaps}
use Rattle.closed.specs.Closed.{Paired}
use Rattle.closed.proofs.Closed.{closed_stays, closed_was}

-- ---- blocks

-- -1, and the bits of 1.0
abbrev pub end : ℕ
end = 0xffff_ffff

abbrev pub w1 : ℕ
w1 = 0x3f80_0000

-- the first three words of a header, and, after the twelve words, the lists
abbrev pub block : ℕ → ℕ → ℕ → List ℕ → List ℕ
block a b c lists = bytes_of ((a ∷ b ∷ c ∷ 0 ∷ 0 ∷ []) ++ (replicate 12 0 ++ lists))

-- four points, and four faces; the last of them is put in where it is wanted
abbrev corner : List ℕ
corner = 0 ∷ 0 ∷ 0 ∷ w1 ∷ 0 ∷ 0 ∷ 0 ∷ w1 ∷ 0 ∷ 0 ∷ 0 ∷ w1 ∷ 0 ∷ 2 ∷ 1 ∷ end ∷ 0 ∷ 1 ∷ 3 ∷ end ∷ 0 ∷ 3 ∷ 2 ∷ []

abbrev pub tetrahedron : List ℕ
tetrahedron = block 0x11c0_0001 0x000f_0000 0 (corner ++ (end ∷ 1 ∷ 2 ∷ 3 ∷ []))

abbrev pub opened : List ℕ
opened = block 0x11c0_0001 0x000b_0000 0 corner

-- eight points
abbrev eight : List ℕ
eight = 0 ∷ 0 ∷ 0 ∷ w1 ∷ 0 ∷ 0 ∷ w1 ∷ w1 ∷ 0 ∷ 0 ∷ w1 ∷ 0 ∷ 0 ∷ 0 ∷ w1 ∷ w1 ∷ 0 ∷ w1 ∷ w1 ∷ w1 ∷ w1 ∷ 0 ∷ w1 ∷ w1 ∷ []

abbrev six_faces : List ℕ
six_faces =
    0 ∷ 3 ∷ 2 ∷ 1 ∷ end ∷ 4 ∷ 5 ∷ 6 ∷ 7 ∷ end ∷ 0 ∷ 1 ∷ 5 ∷ 4 ∷ end ∷ 2 ∷ 3 ∷ 7 ∷ 6 ∷ end ∷ 0 ∷ 4 ∷ 7 ∷ 3 ∷ end ∷ 1 ∷ 2 ∷ 6 ∷ 5 ∷ []

abbrev pub cube : List ℕ
cube = block 0x11c0_0002 0x001d_0000 0 (eight ++ six_faces)

-- ccw is off
abbrev pub turned_cube : List ℕ
turned_cube = block 0x10c0_0002 0x001d_0000 0 (eight ++ six_faces)

abbrev pub quad_cube : List ℕ
quad_cube =
    block 0x1ff0_0002 0x0018_0000 0
    (eight ++ (0 ∷ 3 ∷ 2 ∷ 1 ∷ 4 ∷ 5 ∷ 6 ∷ 7 ∷ 0 ∷ 1 ∷ 5 ∷ 4 ∷ 2 ∷ 3 ∷ 7 ∷ 6 ∷ 0 ∷ 4 ∷ 7 ∷ 3 ∷ 1 ∷ 2 ∷ 6 ∷ 5 ∷ []))

-- three points that are all NaN, and one face, not convex, which names one of them twice
abbrev pub fold : List ℕ
fold = block 0x1140_0000 0xc004_0000 0 (replicate 9 0x7fc0_0000 ++ (0 ∷ 1 ∷ 2 ∷ 1 ∷ []))

-- a square that closes, along two points, with both caps
abbrev pub mast : List ℕ
mast = block 0x17c0_3000 0x8005_0000 0 (0 ∷ 0 ∷ 0 ∷ 0 ∷ w1 ∷ 0 ∷ 0 ∷ 0 ∷ w1 ∷ 0 ∷ w1 ∷ w1 ∷ 0 ∷ w1 ∷ 0 ∷ 0 ∷ [])

-- 3 by 2 points, all heights 0
abbrev pub meadow : List ℕ
meadow = block 0x15c0_0000 0xc002_0000 0x0060_0000 (replicate 6 0)

-- ---- their outlines

abbrev three_faces : List Outline
three_faces = (0 ∷ 2 ∷ 1 ∷ []) ∷ (0 ∷ 1 ∷ 3 ∷ []) ∷ (0 ∷ 3 ∷ 2 ∷ []) ∷ []

abbrev four_faces : List Outline
four_faces = (0 ∷ 2 ∷ 1 ∷ []) ∷ (0 ∷ 1 ∷ 3 ∷ []) ∷ (0 ∷ 3 ∷ 2 ∷ []) ∷ (1 ∷ 2 ∷ 3 ∷ []) ∷ []

abbrev six_quads : List Outline
six_quads =
    (0 ∷ 3 ∷ 2 ∷ 1 ∷ [])
    ∷ (4 ∷ 5 ∷ 6 ∷ 7 ∷ [])
    ∷ (0 ∷ 1 ∷ 5 ∷ 4 ∷ [])
    ∷ (2 ∷ 3 ∷ 7 ∷ 6 ∷ [])
    ∷ (0 ∷ 4 ∷ 7 ∷ 3 ∷ [])
    ∷ (1 ∷ 2 ∷ 6 ∷ 5 ∷ [])
    ∷ []

pub set_outlines : (outlines tetrahedron ≡ four_faces)
    × (outlines opened ≡ three_faces)
    × (outlines cube ≡ six_quads)
    × (outlines turned_cube ≡ six_quads)
    × (outlines fold ≡ (0 ∷ 1 ∷ 2 ∷ 1 ∷ []) ∷ [])
unfolding outlines kept_runs header_of counts_of edition_of edition1 field entries tab place_of list_at list_size widths words_in runs_from ends_run all_below kept flat
set_outlines = (refl, refl, refl, refl, refl)

pub quad_outlines : outlines quad_cube ≡ six_quads
unfolding outlines kept_runs header_of counts_of edition_of edition1 field entries tab place_of list_at list_size widths words_in runs_from ends_run all_below kept flat face_list stretch_runs primitive_run primitive_of places_of primitive_count stretches
quad_outlines = refl

pub grid_outlines_lem : outlines meadow ≡ (0 ∷ 3 ∷ 4 ∷ 1 ∷ []) ∷ (1 ∷ 4 ∷ 5 ∷ 2 ∷ []) ∷ []
unfolding outlines grid_outlines header_of counts_of edition_of edition1 field tabs quad tab flat
grid_outlines_lem = refl

-- the column of the first point and that of the last keep their numbers
pub mast_outlines : outlines mast
    ≡ (0 ∷ 1 ∷ 6 ∷ 5 ∷ [])
    ∷ (1 ∷ 2 ∷ 7 ∷ 6 ∷ [])
    ∷ (2 ∷ 3 ∷ 8 ∷ 7 ∷ [])
    ∷ (3 ∷ 4 ∷ 9 ∷ 8 ∷ [])
    ∷ (3 ∷ 2 ∷ 1 ∷ 0 ∷ [])
    ∷ (5 ∷ 6 ∷ 7 ∷ 8 ∷ [])
    ∷ []
unfolding outlines extrusion_outlines row_outline header_of counts_of edition_of edition1 field entries tab place_of list_at list_size widths words_in section_of closes cap_length at2 tabs quad flat of_bits eq
mast_outlines = refl

-- ---- their gaps

pub set_gaps : (gaps four_faces ≡ 0) × (gaps three_faces ≡ 3) × (gaps six_quads ≡ 0) × (gaps ((0 ∷ 1 ∷ 2 ∷ 1 ∷ []) ∷ []) ≡ 0)
unfolding gaps gap steps_in total around walk
set_gaps = (refl, refl, refl, refl)

-- so a mast is open at its seam
pub mast_gaps : gaps (outlines mast) ≡ 6
unfolding gaps gap steps_in total around walk
mast_gaps = ap gaps mast_outlines

-- ---- edges

-- two triangles at five vertices; the last two are at one point
pub edges_row : let S : Slices = record { sources = 4 ∷ 7 ∷ 9 ∷ 2 ∷ 2 ∷ []; positions = []; normals = []; colours = []; textures = []; indices = 0 ∷ 1 ∷ 3 ∷ 1 ∷ 2 ∷ 4 ∷ [] } in
    (edges_in S 4 7 ≡ 1) × (edges_in S 7 4 ≡ 0) × (edges_in S 7 2 ≡ 1) × (edges_in S 2 7 ≡ 1) × (edges_in S 1 3 ≡ 0)
unfolding edges_in triangles_of tris
edges_row = (refl, refl, refl, refl, refl)

-- ---- calls

-- FORMAT 4: enough for p points, c corners and n indices
abbrev lending : ℕ → ℕ → ℕ → Lending
lending p c n =
    record {
      slices = record {
        sources = replicate c 0;
        positions = replicate (3 * c) 0;
        normals = replicate (3 * c) 0;
        colours = replicate (4 * c) 0;
        textures = replicate (2 * c) 0;
        indices = replicate n 0;
      };
      words = replicate (8 * (c + p) + 8) 0;
      floats = replicate (8 * (c + p) + 8) (of_bits binary32 0);
    }

-- FORMAT 3: none is refused
pub accepted : (number_for tetrahedron (lending 4 12 12) ≡ 0)
    × (number_for opened (lending 4 9 9) ≡ 0)
    × (number_for cube (lending 8 24 36) ≡ 0)
    × (number_for turned_cube (lending 8 24 36) ≡ 0)
    × (number_for fold (lending 3 4 6) ≡ 0)
unfolding refusal rows lengths_of is_short block_rows first_of shape_rows is_no_shape is_over_corners sizes_of face_set_sizes header_of counts_of edition_of edition1 field entries tab place_of list_at list_size widths words_in word_count runs_from ends_run all_below kept corners triangles sum_over flat
accepted = (refl, refl, refl, refl, refl)

pub quads_accepted : number_for quad_cube (lending 8 24 36) ≡ 0
unfolding refusal rows lengths_of is_short block_rows first_of shape_rows is_no_shape is_over_corners sizes_of primitive_sizes header_of counts_of edition_of edition1 field entries tab place_of list_at list_size widths words_in word_count runs_from ends_run all_below kept corners triangles sum_over flat face_list stretch_runs primitive_run primitive_of places_of primitive_count stretches
quads_accepted = refl

module _ (call : Call) where
  -- FORMAT 18: of the closed ones every edge of a triangle has its way back, under every `Call`
  pub tetrahedron_closed : Paired (edges_in (elements_of (call_of call tetrahedron (lending 4 12 12) accepted.0)))
  unfolding header_of field
  tetrahedron_closed = closed_stays tetrahedron refl (call_of call tetrahedron (lending 4 12 12) accepted.0) (ap gaps set_outlines.0 ∙ set_gaps.0)

  pub cube_closed : Paired (edges_in (elements_of (call_of call cube (lending 8 24 36) accepted.2)))
  unfolding header_of field
  cube_closed = closed_stays cube refl (call_of call cube (lending 8 24 36) accepted.2) (ap gaps set_outlines.2 ∙ set_gaps.2)

  pub turned_closed : Paired (edges_in (elements_of (call_of call turned_cube (lending 8 24 36) accepted.3)))
  unfolding header_of field
  turned_closed = closed_stays turned_cube refl (call_of call turned_cube (lending 8 24 36) accepted.3) (ap gaps set_outlines.3 ∙ set_gaps.2)

  pub quads_closed : Paired (edges_in (elements_of (call_of call quad_cube (lending 8 24 36) quads_accepted)))
  unfolding header_of field
  quads_closed = closed_stays quad_cube refl (call_of call quad_cube (lending 8 24 36) quads_accepted) (ap gaps quad_outlines ∙ set_gaps.2)

  pub fold_closed : Paired (edges_in (elements_of (call_of call fold (lending 3 4 6) accepted.4)))
  unfolding header_of field
  fold_closed = closed_stays fold refl (call_of call fold (lending 3 4 6) accepted.4) (ap gaps set_outlines.4 ∙ set_gaps.3)

  -- and where a face is missing not every edge has
  pub opened_not : Paired (edges_in (elements_of (call_of call opened (lending 4 9 9) accepted.1))) → ⊥
  unfolding header_of field
  opened_not h =
      let z : ◌≡◌ {A = ℕ} 3 0 = sym (ap gaps set_outlines.1 ∙ set_gaps.1) ∙ closed_was opened refl (call_of call opened (lending 4 9 9) accepted.1) h in
      omega arith
