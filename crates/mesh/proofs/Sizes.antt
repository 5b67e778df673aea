-- FORMAT 4: P, C and N of a line set, a grid and an extrusion are the points, the corners and the indices of what its block makes.
use mathlib.Core.Path.{◌≡◌, refl, ap, ap₂, ◌∙◌}
use mathlib.Core.Bool.{Bool, true, false, cond}
use Rattle.std.specs.Prelude.{Option, None, Some, is_some}
use mathlib.Core.List.{List, [], ◌∷◌, ◌++◌, map, reverse}
use Prim.Native.Nat.{ℕ, suc, ◌+◌, ◌-◌, ◌*◌}
use native.Mathlib.Nat.{mul_comm}
use native.Mathlib.Omega.{arith}
use lib.Dec.{ltb}
use lib.ListN.{length, length-map, length-reverse}
use Rattle.bits.specs.Bits.{entries}
use Rattle.bits.specs.declared.Words4.{Words4}
use Rattle.block.specs.declared.header.Header.{Header}
use Rattle.block.specs.declared.settings.Settings.{Settings}
use Rattle.block.specs.Header.{header_of}
use Rattle.block.specs.Runs.{Run, runs, sum_over}
use Rattle.lists.specs.Loops.{tab}
use Rattle.lists.proofs.Tabs.{length_tab}
use Rattle.lists.specs.Lists.{map_n, join_n, total, place}
use Rattle.lists.proofs.Numbers.{rows_of}
use Rattle.mesh.specs.Words.{words3}
use Rattle.mesh.specs.Soup.{Face}
use Rattle.mesh.specs.Vertices.{Key, same_key, width}
use Rattle.mesh.specs.FaceSet.{Rest, rest_of, coord_in, point_count}
use Rattle.mesh.specs.Lines.{these, somes, line, joined, item_of, items_of, line_keys, line_ends, line_vertices, line_indices, corner_for, line_faces, lines_of, line_set_mesh}
use Rattle.mesh.specs.Quads.{quad}
use Rattle.mesh.specs.Grid.{x_dimension, z_dimension, grid_point, grid_points, grid_of, grid_face, grid_faces}
use Rattle.mesh.specs.Extrusion.{Extrusion, extrusion_of, section_of, spine_count, section_count, row_words, row_at, extrusion_points, side_corner, sides, cap_length, cap_corner, cap_face, face_if, has_cap, caps, extrusion_faces}
use Rattle.std.specs.Int.{from_bool}
use Rattle.mesh.specs.Sizes.{named, lines_after, line_set_sizes, quad_count, grid_sizes, cap_count, extrusion_sizes}
use Rattle.lists.proofs.Lists.{length_join_n, length_words}
use Rattle.lists.proofs.Totals.{flat_total, total_append, total_tab, total_map_n, times_total}
use Rattle.lists.proofs.Rows.{total_tabs}

-- what each run gives, added up
sum_total : (f : List ℕ → ℕ) (rs : List Run) → total (λ (r : Run). f r.items) rs ≡ sum_over f rs
unfolding total sum_over
sum_total f [] = refl
sum_total f (r ∷ rs) = ap (λ (k : ℕ). f r.items + k) (sum_total f rs)

-- ---- line set

one_key : (b : Bool) (q : Key) (l : List Key) (n : ℕ) → length l ≡ n → length (these (cond b (Some q) None) ++ l) ≡ cond b (suc n) n
one_key true q l n h = ap suc h
one_key false q l n h = h

one_line : (b : Bool) (q : Key) (prev : Option Key) (os : List (Option Key)) (n : Bool → ℕ) → ((o : Option Key) → length (joined o os) ≡ 2 * n (is_some o))
    → length (line prev (cond b (Some q) None) ++ joined (cond b (Some q) None) os) ≡ 2 * cond (is_some prev) (cond b (suc (n b)) (n b)) (n b)
one_line true q None os n h = h (Some q)
one_line true q (Some k) os n h = omega (arith, h (Some q))
one_line false q None os n h = h None
one_line false q (Some k) os n h = h None

module _ (missing : Words4) (R : Rest) (coord : List ℕ) where
  keys_length : (num k : ℕ) (es : List ℕ) → length (somes (map_n (item_of missing R coord num) k es)) ≡ named (point_count R.head) es
  unfolding somes map_n item_of named
  keys_length num k [] = refl
  keys_length num k (e ∷ es) = one_key (ltb e (point_count R.head)) _ _ _ (keys_length num (suc k) es)

  ends_length : (num k : ℕ) (prev : Option Key) (es : List ℕ)
      → length (joined prev (map_n (item_of missing R coord num) k es)) ≡ 2 * lines_after (point_count R.head) (is_some prev) es
  unfolding joined map_n item_of lines_after
  ends_length num k prev [] = refl
  ends_length num k prev (e ∷ es) =
      one_line (ltb e (point_count R.head)) _ prev (map_n (item_of missing R coord num) (suc k) es) (λ b. lines_after (point_count R.head) b es) (λ o. ends_length num (suc k) o es)

  lines_corners : total length (line_faces missing R coord) ≡ sum_over (named (point_count R.head)) (runs (entries coord))
  unfolding line_faces line_keys items_of
  lines_corners =
      total_map_n length (λ (r : Run). named (point_count R.head) r.items) (λ num r. map corner_for (line_keys missing R coord num r))
      (λ num r. length-map (line_keys missing R coord num r) corner_for ∙ keys_length num r.start r.items) 0 (runs (entries coord))
      ∙ sum_total (named (point_count R.head)) (runs (entries coord))

  lines_indices : (vs : List Key) → length (line_indices missing R coord vs) ≡ 2 * sum_over (lines_after (point_count R.head) false) (runs (entries coord))
  unfolding line_indices line_ends items_of
  lines_indices vs =
      length-map (join_n (line_ends missing R coord) 0 (runs (entries coord))) (λ (k : Key). place same_key k vs)
      ∙ length_join_n (line_ends missing R coord) (λ (r : Run). 2 * lines_after (point_count R.head) false r.items) (λ num r. ends_length num r.start None r.items) 0 (runs (entries coord))
      ∙ times_total 2 (λ (r : Run). lines_after (point_count R.head) false r.items) (runs (entries coord))
      ∙ ap (λ (k : ℕ). 2 * k) (sum_total (lines_after (point_count R.head) false) (runs (entries coord)))

module _ (missing : Words4) (bs : List ℕ) where
  pub line_set_corners : total length (line_faces missing (rest_of bs) (coord_in bs)) ≡ (line_set_sizes bs (header_of bs)).corners
  unfolding line_set_sizes rest_of coord_in
  line_set_corners = lines_corners missing (rest_of bs) (coord_in bs)

  pub line_set_indices : length (line_set_mesh missing bs).indices ≡ (line_set_sizes bs (header_of bs)).indices
  unfolding line_set_sizes rest_of coord_in line_set_mesh lines_of
  line_set_indices = lines_indices missing (rest_of bs) (coord_in bs) (line_vertices missing (rest_of bs) (coord_in bs))

-- ---- grid

pub grid_words : (h : Header) (s : Settings) (heights : List ℕ) → length (grid_points h s heights) ≡ 3 * (x_dimension h * z_dimension h)
unfolding grid_points
grid_words h s heights =
    flat_total (tab (λ k. words3 (grid_point h s heights k)) (x_dimension h * z_dimension h) 0)
    ∙ total_tab length (λ k. words3 (grid_point h s heights k)) 3 (λ k. refl) (x_dimension h * z_dimension h) 0
    ∙ mul_comm (x_dimension h * z_dimension h) 3

-- by any size of a face that all its quads share
quads_total : (missing : Words4) (G : Rest) (size : Face → ℕ) (w : ℕ) → ((j i : ℕ) → size (grid_face missing G j i) ≡ w)
    → total size (grid_faces missing G) ≡ w * quad_count G.head
unfolding grid_faces
quads_total missing G size w h =
    total_tabs size (grid_face missing G) w h (z_dimension G.head - 1) (x_dimension G.head - 1)
    ∙ rows_of (z_dimension G.head - 1) (x_dimension G.head - 1) w
    ∙ ap (λ (n : ℕ). w * n) (mul_comm (z_dimension G.head - 1) (x_dimension G.head - 1))

pub grid_points_lem : (bs : List ℕ) → length (grid_of bs).points ≡ 3 * (grid_sizes (header_of bs)).points
unfolding grid_of grid_sizes
grid_points_lem bs = grid_words (header_of bs) _ _

module _ (missing : Words4) (bs : List ℕ) where
  pub grid_corners : total length (grid_faces missing (grid_of bs)) ≡ (grid_sizes (header_of bs)).corners
  unfolding grid_of grid_face quad grid_sizes
  grid_corners = quads_total missing (grid_of bs) length 4 (λ j i. refl)

  pub grid_indices : total width (grid_faces missing (grid_of bs)) ≡ (grid_sizes (header_of bs)).indices
  unfolding grid_of grid_face quad grid_sizes width
  grid_indices = quads_total missing (grid_of bs) width 6 (λ j i. refl)

-- ---- extrusion

module _ (E : Extrusion) where
  row_length : (i : ℕ) → length (row_at E i) ≡ length E.section * 3
  unfolding row_at row_words
  row_length i = length_words _ 3 (λ p. refl) E.section ∙ mul_comm 3 (length E.section)

  points_length : length (extrusion_points E) ≡ 3 * (length E.spine * length E.section)
  unfolding extrusion_points
  points_length =
      flat_total (tab (row_at E) (length E.spine) 0)
      ∙ total_tab length (row_at E) (length E.section * 3) row_length (length E.spine) 0
      ∙ rows_of (length E.spine) (length E.section) 3

  cap_length_lem : (i : ℕ) → length (cap_face E i) ≡ cap_length E.section
  unfolding cap_face
  cap_length_lem i = length_tab (cap_corner E i) (cap_length E.section) 0

  -- by any size of a face that its corners decide
  faces_total : (size : Face → ℕ) (by : ℕ → ℕ) → ((f : Face) → size f ≡ by (length f))
      → total size (extrusion_faces E)
      ≡ by 4 * ((length E.spine - 1) * (length E.section - 1)) + cap_count E.head (cap_length E.section) * by (cap_length E.section)
  unfolding extrusion_faces sides caps quad total
  faces_total size by h =
      total_append size (sides E) (caps E)
      ∙ ap₂ (λ (a b : ℕ). a + b)
      (total_tabs size (quad (side_corner E)) (by 4) (λ i j. h _) (length E.spine - 1) (length E.section - 1)
      ∙ rows_of (length E.spine - 1) (length E.section - 1) (by 4))
      (total_append size (face_if b (reverse (cap_face E 0))) (face_if e (cap_face E (length E.spine - 1)))
      ∙ ap₂ (λ (a b : ℕ). a + b)
      (one_cap b (reverse (cap_face E 0)) (length-reverse (cap_face E 0) ∙ cap_length_lem 0))
      (one_cap e (cap_face E (length E.spine - 1)) (cap_length_lem (length E.spine - 1)))
      ∙ two b e)
    where
      b : Bool
      b = has_cap E.head.begin_cap (cap_length E.section)

      e : Bool
      e = has_cap E.head.end_cap (cap_length E.section)

      one_cap : (t : Bool) (f : Face) → length f ≡ cap_length E.section → total size (face_if t f) ≡ from_bool t * by (cap_length E.section)
      one_cap true f l = omega (arith, h f, ap by l)
      one_cap false f l = omega arith

      two : (s t : Bool) → from_bool s * by (cap_length E.section) + from_bool t * by (cap_length E.section) ≡ (from_bool s + from_bool t) * by (cap_length E.section)
      two true true = omega arith
      two true false = omega arith
      two false true = omega arith
      two false false = omega arith

module _ (bs : List ℕ) where
  spine_length : length (extrusion_of bs).spine ≡ spine_count (header_of bs)
  unfolding extrusion_of
  spine_length = length_tab _ (spine_count (header_of bs)) 0

  section_length : length (extrusion_of bs).section ≡ section_count (header_of bs)
  unfolding extrusion_of section_of
  section_length = length_tab _ (section_count (header_of bs)) 0

  pub extrusion_points_lem : length (extrusion_points (extrusion_of bs)) ≡ 3 * (extrusion_sizes bs (header_of bs)).points
  unfolding extrusion_sizes
  extrusion_points_lem = points_length (extrusion_of bs) ∙ (λ i. 3 * (spine_length i * section_length i))

  counted : (size : Face → ℕ) (by : ℕ → ℕ) → ((f : Face) → size f ≡ by (length f))
      → total size (extrusion_faces (extrusion_of bs))
      ≡ by 4 * ((spine_count (header_of bs) - 1) * (section_count (header_of bs) - 1))
      + cap_count (header_of bs) (cap_length (section_of bs (header_of bs))) * by (cap_length (section_of bs (header_of bs)))
  unfolding extrusion_of
  counted size by h =
      faces_total (extrusion_of bs) size by h
      ∙ (λ i.
      by 4 * ((spine_length i - 1) * (section_length i - 1))
      + cap_count (header_of bs) (cap_length (section_of bs (header_of bs))) * by (cap_length (section_of bs (header_of bs))))

  pub extrusion_corners : total length (extrusion_faces (extrusion_of bs)) ≡ (extrusion_sizes bs (header_of bs)).corners
  unfolding extrusion_sizes
  extrusion_corners = counted length (λ n. n) (λ f. refl)

  pub extrusion_indices : total width (extrusion_faces (extrusion_of bs)) ≡ (extrusion_sizes bs (header_of bs)).indices
  unfolding extrusion_sizes width
  extrusion_indices = counted width (λ n. 3 * (n - 2)) (λ f. refl)
