-- FORMAT 7.2: where the colour of the call is seen, worked; and that a block that makes no colours, an extrusion among them, does not show it.
use mathlib.Core.Path.{◌≡◌, refl, ap, ◌∙◌}
use mathlib.Core.Bool.{false, cond}
use mathlib.Core.List.{List, [], ◌∷◌, ◌++◌, map}
use Rattle.std.specs.Prelude.{None, Some}
use lib.Dec.{ltb}
use lib.ListN.{replicate}
use Prim.Native.Nat.{ℕ, ◌+◌, ◌*◌, ◌-◌}
use Rattle.bits.specs.declared.Words2.{Words2}
use Rattle.bits.specs.declared.Words4.{Words4}
use Rattle.lists.specs.Loops.{tab}
use Rattle.bits.specs.Bits.{field, entries, bytes_of}
use Rattle.block.specs.declared.kind.Kind.{Kind}
use Rattle.block.specs.declared.kind.Kind.TheVariants.{FaceSet, LineSet, Grid, Extrusion, Primitives}
use Rattle.block.specs.Edition.{edition1, edition_of}
use Rattle.block.specs.Header.{counts_of, header_of}
use Rattle.block.specs.Kind.{by_kind}
use Rattle.block.specs.Extents.{widths, words_in, list_at, list_size, place_of}
use Rattle.block.specs.Runs.{Run, ends_run, runs_from, runs, kept}
use Rattle.block.specs.Stream.{itself, number_in, number_at}
use Rattle.block.specs.Value.{value_at}
use Rattle.lists.specs.Lists.{map_n, join_n, has, place, meet, firsts, same_words, flat, tabs}
use Rattle.mesh.specs.Words.{no2, no3, point_words}
use Rattle.mesh.specs.Vertices.{Key, same_key}
use Rattle.mesh.specs.Mesh.{Mesh, slices_of, mesh}
use Rattle.mesh.specs.Texture.{fit_of, default_at}
use Rattle.mesh.specs.FaceSet.{Rest, rest_of, coord_in, point_count, normal_of, colour_of, texture_by, corner_by, corner_of, face_of, faces_of, frame_of, face_set_mesh, convex_frame}
use Rattle.mesh.specs.Quads.{quad}
use Rattle.mesh.specs.Grid.{grid_of, x_dimension, z_dimension, grid_default, grid_corner, grid_face, grid_faces, grid_mesh}
use Rattle.mesh.specs.Lines.{somes, joined, item_of, items_of, line_keys, line_ends, line_vertices, line_indices, lines_of, line_set_mesh}
use Rattle.mesh.specs.Extrusion.{extrusion_mesh}
use Rattle.mesh.specs.Primitives.{listed_coord, primitive_mesh}
use Rattle.mesh.specs.Result.{makes_colours, block_mesh, made_of, made, result_of}
use Rattle.lent.specs.Answer.{Answer}
use Rattle.geometry.specs.declared.answer.Call.{Call}
use Rattle.lent.specs.Answer.{said, after_all}
use Rattle.geometry.specs.Answer.{grey, white, result_for}
use Rattle.geometry.specs.Converted.{Lending, number_for, Converted}

-- ---- the shapes of a block whose colours are not present

module _ (w w' : Words4) (R : Rest) (absent : R.head.colors ≡ false) where
  colour_unread : (coord : List ℕ) (num k : ℕ) → colour_of w R coord num k ≡ colour_of w' R coord num k
  unfolding colour_of
  colour_unread coord num k = rw absent

  corner_unread : (coord : List ℕ) (num k p : ℕ) (d : Words2) → corner_by w R coord num k p d ≡ corner_by w' R coord num k p d
  unfolding corner_by
  corner_unread coord num k p d = λ i. record {
    point = p;
    gather = p;
    given = normal_of R coord num k;
    colour = colour_unread coord num k i;
    texture = texture_by R coord num k d;
  }

  faces_unread : (coord : List ℕ) → faces_of w R coord ≡ faces_of w' R coord
  unfolding faces_of face_of corner_of
  faces_unread coord =
      λ i. map_n (λ (num : ℕ) (r : Run). cond (kept (point_count R.head) r.items) (map_n (λ (k e : ℕ). corner_unread coord num k e (default_at R.points (fit_of R.points (point_count R.head)) e) i) r.start r.items) []) 0 (runs (entries coord))

  quads_unread : grid_faces w R ≡ grid_faces w' R
  unfolding grid_faces grid_face grid_corner
  quads_unread =
      λ i. tabs (λ (j x : ℕ). quad (λ (a b : ℕ). let p = a + b * x_dimension R.head in corner_unread [] (x + j * (x_dimension R.head - 1)) p p (grid_default R.head a b) i) x j) (z_dimension R.head - 1) (x_dimension R.head - 1)

  items_unread : (coord : List ℕ) (num : ℕ) (r : Run) → items_of w R coord num r ≡ items_of w' R coord num r
  unfolding items_of item_of
  items_unread coord num r =
      λ i. map_n (λ (k e : ℕ). let key : Key = record { point = e; normal = no3; colour = colour_unread coord num k i; texture = no2 } in cond (ltb e (point_count R.head)) (Some key) None) r.start r.items

  vertices_unread : (coord : List ℕ) → line_vertices w R coord ≡ line_vertices w' R coord
  unfolding line_vertices line_keys
  vertices_unread coord = λ i. firsts same_key [] (join_n (λ (num : ℕ) (r : Run). somes (items_unread coord num r i)) 0 (runs (entries coord)))

  lines_unread : (coord : List ℕ) → lines_of w R coord ≡ lines_of w' R coord
  unfolding lines_of line_indices line_ends
  lines_unread coord =
      λ i. let vs = vertices_unread coord i in
      record {
        sources = map (λ (k : Key). k.point) vs;
        positions = map (λ (k : Key). point_words R.points k.point) vs;
        normals = [];
        colours = map (λ (k : Key). k.colour) vs;
        textures = [];
        indices = map (λ (k : Key). place same_key k vs) (join_n (λ (num : ℕ) (r : Run). joined None (items_unread coord num r i)) 0 (runs (entries coord)));
      }

-- ---- a block

module _ (w w' : Words4) (bs : List ℕ) where
  by_kind_lem : (k : Kind) → by_kind k (header_of bs).colors (header_of bs).colors (header_of bs).colors false (λ g. (header_of bs).colors) ≡ false
      → by_kind k (face_set_mesh w bs) (line_set_mesh w bs) (grid_mesh w bs) (extrusion_mesh bs) (λ g. primitive_mesh w g bs)
      ≡ by_kind k (face_set_mesh w' bs) (line_set_mesh w' bs) (grid_mesh w' bs) (extrusion_mesh bs) (λ g. primitive_mesh w' g bs)
  unfolding face_set_mesh line_set_mesh grid_mesh primitive_mesh rest_of grid_of
  by_kind_lem FaceSet e = ap (mesh (frame_of (rest_of bs))) (faces_unread w w' (rest_of bs) e (coord_in bs))
  by_kind_lem LineSet e = lines_unread w w' (rest_of bs) e (coord_in bs)
  by_kind_lem Grid e = ap (mesh (convex_frame (grid_of bs))) (quads_unread w w' (grid_of bs) e)
  by_kind_lem Extrusion e = refl
  by_kind_lem (Primitives g) e = ap (mesh (convex_frame (rest_of bs))) (faces_unread w w' (rest_of bs) e (listed_coord g bs))

  mesh_unread : makes_colours (header_of bs) ≡ false → block_mesh w bs ≡ block_mesh w' bs
  unfolding block_mesh
  mesh_unread e = by_kind_lem (header_of bs).kind e

-- ---- a call

-- FORMAT 7.2: of a block that makes no colours, what holds of a call under one colour holds of it under every other
pub call_unread : {call other : Call} {bs : List ℕ} {l m : Lending} {r : Answer} → makes_colours (header_of bs) ≡ false → Converted call bs l m r → Converted other bs l m r
unfolding result_for made
call_unread {call} {other} {bs} {l} {m} {r} e C =
    let same = mesh_unread call.colour other.colour bs e in
    record {
      answer = C.answer ∙ ap (λ (M : Mesh). said (number_for bs l) (result_of (header_of bs) M)) same;
      slices = C.slices ∙ ap (λ (M : Mesh). after_all (number_for bs l) (made_of (header_of bs) (slices_of M)) l.slices) same;
      words = C.words;
      floats = C.floats;
    }

-- ---- worked

-- a line set of two points with colours by line: the second word of the header, then coordIndex and the colours
abbrev lines : ℕ → List ℕ → List ℕ
lines counts rest = bytes_of (0x1202_0000 ∷ counts ∷ 0 ∷ 0 ∷ 0 ∷ []) ++ replicate 72 0 ++ bytes_of rest

-- FORMAT 7.2: no colour is listed, so each vertex has the four words of the call, whichever they are
pub missing_row : (w : Words4) → (made w (lines 0x8002_0000 (0 ∷ 1 ∷ []))).colours ≡ w.r ∷ w.g ∷ w.b ∷ w.a ∷ w.r ∷ w.g ∷ w.b ∷ w.a ∷ []
unfolding made made_of slices_of block_mesh line_set_mesh lines_of line_vertices line_indices line_keys line_ends items_of item_of somes joined rest_of coord_in colour_of number_at number_in itself value_at point_words join_n map_n firsts meet has place same_key same_words runs_from ends_run header_of counts_of edition_of edition1 place_of list_at list_size widths words_in entries tab field flat
missing_row w = refl

-- FORMAT 11: the first line's colour is a listed grey and the second's is missing: under grey both are the same two vertices, under white they are not
pub joined_row : let bs = lines 0x8005_0004 (0 ∷ 1 ∷ 0xffff_ffff ∷ 0 ∷ 1 ∷ 0x3f4c_cccd ∷ 0x3f4c_cccd ∷ 0x3f4c_cccd ∷ []) in
    ((made grey bs).sources ≡ 0 ∷ 1 ∷ []) × ((made white bs).sources ≡ 0 ∷ 1 ∷ 0 ∷ 1 ∷ [])
unfolding grey white made made_of slices_of block_mesh line_set_mesh lines_of line_vertices line_indices line_keys line_ends items_of item_of somes joined rest_of coord_in colour_of number_at number_in itself value_at point_words join_n map_n firsts meet has place same_key same_words runs_from ends_run header_of counts_of edition_of edition1 place_of list_at list_size widths words_in entries tab field flat
joined_row = (refl, refl)
