-- FORMAT 8.4, extrusion: the block of an extrusion as a soup, and its mesh. ISO/IEC 14772-1, 6.18.
use Rattle.std.specs.Prelude.{ℕ, ◌+◌, ◌-◌, ◌*◌, Bool, true, false, ◌&&◌, cond, List, [], ◌∷◌, ◌++◌, map, reverse, ltb, leb, length, get_or, Float}
use Rattle.std.specs.Float.{binary32}
use Rattle.std.specs.Float.Ieee.{of_bits, to_bits, sub, mul, eq}
use Rattle.bits.specs.declared.Words2.{Words2}
use Rattle.math.specs.declared.vector.V3.{V3}
use Rattle.math.specs.declared.quaternion.Quat.{Quat}
use Rattle.math.specs.Vector.{zero_f, one_f, v3, vadd, vscale}
use Rattle.math.specs.Quaternion.{identity, rotated, axis_turn}
use Rattle.math.specs.Order.{max_of}
use Rattle.block.specs.declared.header.Header.{Header}
use Rattle.block.specs.declared.settings.Settings.{Settings}
use Rattle.block.specs.declared.texture.Pair.{Pair}
use Rattle.block.specs.Header.{header_of}
use Rattle.block.specs.Extents.{list_bytes}
use Rattle.block.specs.Settings.{settings_of}
use Rattle.block.specs.Value.{value_word, words2, words3}
use Rattle.block.specs.Texture.{pair_of, uv_words}
use Rattle.lists.specs.Loops.{tab}
use Rattle.lists.specs.Lists.{flat, tabs}
use Rattle.mesh.specs.Words.{words3 as words_of, no2, no3, no4, floats, bits}
use Rattle.mesh.specs.Soup.{Corner, gathered, Face, Frame}
use Rattle.mesh.specs.Mesh.{Mesh, mesh}
use Rattle.mesh.specs.declared.texture.Span.{Span}
use Rattle.mesh.specs.declared.texture.AxisName.TheVariants.{X, Y}
use Rattle.mesh.specs.declared.texture.Fit.{Fit}
use Rattle.mesh.specs.Texture.{span_of, divisor, fitted_at}
use Rattle.mesh.specs.Quads.{quad}
use Rattle.mesh.specs.Frames.{Axes, at, axes_at}
use Rattle.mesh.specs.Arcs.{at2, arcs2, arcs3}

-- FORMAT 2.4: the counts of the spine and of the cross-section
abbrev pub spine_count : Header → ℕ
spine_count h = get_or h.counts 0 0

abbrev pub section_count : Header → ℕ
section_count h = get_or h.counts 1 0

-- FORMAT 2.4: n points, and n pairs, of a list of bytes
abbrev pub threes : List ℕ → ℕ → List V3
threes values n = tab (λ k. floats (words3 values k)) n 0

abbrev pub twos : List ℕ → ℕ → List Pair
twos values n = tab (λ k. pair_of (words2 values k)) n 0

-- FORMAT 2.4: float j of orientation k
abbrev pub float_in : List ℕ → ℕ → ℕ → Float
float_in values k j = of_bits binary32 (value_word 5 values k j)

-- FORMAT 9.5: orientation k, axis and the sine and cosine of half the angle, as a quaternion
unfoldable pub turn_in : List ℕ → ℕ → Quat
turn_in values k = axis_turn (v3 (float_in values k 0) (float_in values k 1) (float_in values k 2)) (float_in values k 3) (float_in values k 4)

-- FORMAT 2.4: what the block of an extrusion holds
pub record Extrusion : Type 0 where
  pub head : Header
  pub settings : Settings
  pub spine : List V3
  pub section : List Pair
  pub scales : List Pair
  pub turns : List Quat

-- FORMAT 2.4: read from the block's bytes
unfoldable pub section_of : List ℕ → Header → List Pair
section_of bs h = twos (list_bytes bs h 1) (section_count h)

unfoldable pub extrusion_of : List ℕ → Extrusion
extrusion_of bs =
    let h = header_of bs in
    record {
      head = h;
      settings = settings_of bs;
      spine = threes (list_bytes bs h 0) (spine_count h);
      section = section_of bs h;
      scales = twos (list_bytes bs h 2) (get_or h.counts 2 0);
      turns = tab (turn_in (list_bytes bs h 3)) (get_or h.counts 3 0) 0;
    }

-- ---- points

-- FORMAT 8.4, extrusion (pick): entry i, the first one where the list is too short, d where it is empty
abbrev pub entry_or : {A : Type 0} → List A → ℕ → A → A
entry_or l i d = get_or l i (get_or l 0 d)

-- FORMAT 8.4, extrusion (sc)
unfoldable pub scale_at : List Pair → ℕ → Pair
scale_at scs i = entry_or scs i (record { s = one_f; t = one_f })

-- FORMAT 8.4, extrusion (q)
unfoldable pub turn_at : List Quat → ℕ → Quat
turn_at qs i = entry_or qs i identity

-- FORMAT 8.4, extrusion (local): a cross-section point, scaled and turned
unfoldable pub local : Quat → Pair → Pair → V3
local q sc p = rotated q (v3 (mul binary32 p.s sc.s) zero_f (mul binary32 p.t sc.t))

-- FORMAT 8.4, extrusion (w): the point with the coordinates l along axes at o
unfoldable pub placed : V3 → Axes → V3 → V3
placed o a l = vadd o (vadd (vadd (vscale a.x l.x) (vscale a.y l.y)) (vscale a.z l.z))

-- FORMAT 8.4: the words of one spine point's row
unfoldable pub row_words : V3 → Axes → Quat → Pair → List Pair → List ℕ
row_words o a q sc cs = flat (map (λ (p : Pair). words_of (bits (placed o a (local q sc p)))) cs)

-- FORMAT 8.4: row i
unfoldable pub row_at : Extrusion → ℕ → List ℕ
row_at E i = row_words (at E.spine i) (axes_at E.spine i) (turn_at E.turns i) (scale_at E.scales i) E.section

-- FORMAT 8.4, extrusion (coords): for each spine point, each cross-section point
unfoldable pub extrusion_points : Extrusion → List ℕ
extrusion_points E = flat (tab (row_at E) (length E.spine) 0)

-- ---- texture, before the transform

-- FORMAT 8.4, extrusion (t_out): how far along the cross-section, and how far along the spine
unfoldable pub side_texture : Extrusion → ℕ → ℕ → Words2
side_texture E i j =
    record { s = to_bits binary32 (get_or (arcs2 E.section) j zero_f); t = to_bits binary32 (get_or (arcs3 E.spine) i zero_f) }

-- FORMAT 8.4: how far a span goes
abbrev pub extent : Span → Float
extent s = sub binary32 s.high s.low

-- FORMAT 8.4, extrusion (lo, span): the whole cross-section's lowest coordinates; both are divided by the larger extent; the axes are not read
unfoldable pub cap_fit : List Pair → Fit
cap_fit cs =
    let a = span_of (λ j. (at2 cs j).s) (length cs) in
    let b = span_of (λ j. (at2 cs j).t) (length cs) in
    record { s_axis = X; t_axis = Y; s_low = a.low; t_low = b.low; by = divisor (max_of (extent a) (extent b)) }

-- FORMAT 8.4, extrusion (cap_st)
unfoldable pub cap_texture : Fit → Pair → Words2
cap_texture f p = fitted_at f p.s p.t

-- ---- faces

-- FORMAT 8.4, extrusion (cs_closed): more than two points, and the last equal to the first as f32
unfoldable pub closes : List Pair → Bool
closes cs =
    let a = at2 cs 0 in
    let b = at2 cs (length cs - 1) in
    ltb 2 (length cs) && (eq a.s b.s && eq a.t b.t)

-- FORMAT 8.4, 10.2: where the cross-section closes, the points at a spine point are a ring
unfoldable pub ring_of : List Pair → ℕ
ring_of cs = cond (closes cs) (length cs) 0

-- FORMAT 8.4, 7.3: no colour and no normal; texture where it is wanted
unfoldable pub corner_at : Extrusion → ℕ → Words2 → Corner
corner_at E p st =
    let uv = uv_words E.head.transformed E.settings.transform st in
    record {
      point = p;
      gather = gathered (ring_of E.section) p;
      given = no3;
      colour = no4;
      texture = cond E.head.need_uvs uv no2;
    }

-- FORMAT 8.4: the number of point j in row i, of rows of m
abbrev pub point_number : ℕ → ℕ → ℕ → ℕ
point_number m i j = i * m + j

-- FORMAT 8.4: a corner of a side, and of a cap
unfoldable pub side_corner : Extrusion → ℕ → ℕ → Corner
side_corner E i j = corner_at E (point_number (length E.section) i j) (side_texture E i j)

unfoldable pub cap_corner : Extrusion → ℕ → ℕ → Corner
cap_corner E i j = corner_at E (point_number (length E.section) i j) (cap_texture (cap_fit E.section) (at2 E.section j))

-- FORMAT 8.4, extrusion (faces): the sides, row by row
unfoldable pub sides : Extrusion → List Face
sides E = tabs (quad (side_corner E)) (length E.spine - 1) (length E.section - 1)

-- FORMAT 8.4, extrusion (cap_len): without a closing point
unfoldable pub cap_length : List Pair → ℕ
cap_length cs = cond (closes cs) (length cs - 1) (length cs)

-- FORMAT 8.4: the cap at row i, in the order of the cross-section
unfoldable pub cap_face : Extrusion → ℕ → Face
cap_face E i = tab (cap_corner E i) (cap_length E.section) 0

-- FORMAT 8.4: a face, where there is one
abbrev pub face_if : Bool → Face → List Face
face_if true f = f ∷ []
face_if false f = []

-- FORMAT 8.4: whether there is a cap, by its bit: it has 3 corners or more
abbrev pub has_cap : Bool → ℕ → Bool
has_cap wanted k = wanted && leb 3 k

-- FORMAT 8.4, extrusion (beginCap, endCap): the begin cap the other way round, then the end cap
unfoldable pub caps : Extrusion → List Face
caps E =
    let k = cap_length E.section in
    face_if (has_cap E.head.begin_cap k) (reverse (cap_face E 0)) ++ face_if (has_cap E.head.end_cap k) (cap_face E (length E.spine - 1))

-- FORMAT 8.4, extrusion (pm.faces): sides, then caps
unfoldable pub extrusion_faces : Extrusion → List Face
extrusion_faces E = sides E ++ caps E

-- FORMAT 8.4, extrusion (pm): the convex bit governs sides and caps alike
unfoldable pub extrusion_frame : Extrusion → Frame
extrusion_frame E =
    record {
      points = extrusion_points E;
      ccw = E.head.ccw;
      convex = E.head.convex;
      supplied = false;
      crease = E.settings.crease;
    }

-- FORMAT 8.4, extrusion
unfoldable pub extrusion_mesh : List ℕ → Mesh
extrusion_mesh bs = mesh (extrusion_frame (extrusion_of bs)) (extrusion_faces (extrusion_of bs))
