-- FORMAT 8, 18: of every kind but line sets, the mesh is made of faces whose outlines are those that `outlines` lists.
use mathlib.Core.Path.{◌≡◌, refl, sym, ap, ◌∙◌}
use mathlib.Core.Bool.{Bool, true, false, cond, true≢false}
use mathlib.Core.List.{List, [], ◌∷◌, ◌++◌, map, map-append, reverse}
use Prim.Native.Nat.{ℕ, suc, ◌+◌, ◌-◌, ◌<◌, ◌≤◌}
use native.Mathlib.Omega.{arith}
use lib.ListN.{length}
use Rattle.bits.specs.Bits.{entries}
use Rattle.bits.specs.declared.Words4.{Words4}
use Rattle.block.specs.declared.kind.Kind.{Kind}
use Rattle.block.specs.declared.kind.Kind.TheVariants.{FaceSet, LineSet, Grid, Extrusion, Primitives}
use Rattle.block.specs.declared.topology.Topology.{Topology}
use Rattle.block.specs.Kind.{by_kind, is_lines}
use Rattle.block.specs.Header.{header_of}
use Rattle.block.specs.Extents.{list_bytes}
use Rattle.block.specs.Runs.{Run, runs_from, runs, kept}
use Rattle.block.proofs.EditionLaws.{count_narrow}
use Rattle.block.proofs.RunLaws.{kept_long}
use Rattle.primitives.specs.Kept.{kept_primitives}
use Rattle.primitives.proofs.Closed.{closed, closed_first, list_closed, Primitive, primitives_are, goes_on}
use Rattle.lists.specs.Loops.{All}
use Rattle.lists.specs.Lists.{map_n, flat, tabs}
use Rattle.lists.proofs.Lists.{length_map_n}
use Rattle.lists.proofs.Tabs.{map_tab, length_tab}
use Rattle.lists.proofs.Totals.{tab_reverse}
use Rattle.lists.proofs.Rows.{map_tabs}
use Rattle.mesh.specs.Soup.{Corner, Face, points_of, dense, Frame}
use Rattle.mesh.specs.Mesh.{mesh}
use Rattle.mesh.specs.Quads.{quad}
use Rattle.mesh.specs.FaceSet.{Rest, rest_of, coord_in, point_count, corner_by, corner_of, face_of, faces_of, frame_of, convex_frame, face_set_mesh}
use Rattle.mesh.specs.Lines.{line_set_mesh}
use Rattle.mesh.specs.Grid.{x_dimension, z_dimension, grid_of, grid_corner, grid_face, grid_faces, grid_mesh}
use Rattle.mesh.specs.Extrusion as extruded
use Rattle.mesh.specs.Extrusion.{spine_count, section_count, section_of, extrusion_of, point_number, corner_at, side_corner, cap_corner, sides, cap_length, cap_face, face_if, has_cap, caps, extrusion_faces, extrusion_frame, extrusion_mesh}
use Rattle.mesh.specs.Primitives.{listed_coord, primitive_mesh}
use Rattle.mesh.specs.Sizes.{coord_runs, listed_runs}
use Rattle.mesh.specs.Result.{block_mesh}
use Rattle.mesh.proofs.Dense.{mesh_dense}
use Rattle.mesh.proofs.Primitives.{listed_entries}
use Rattle.closed.specs.Outlines.{Outline, kept_runs, grid_outlines, row_outline, outline_if, extrusion_outlines, outlines}

-- ---- the runs of an index list

dense_long : (f : Face) (fs : List Face) → 0 < length f → dense (f ∷ fs) ≡ f ∷ dense fs
unfolding dense
dense_long [] fs h = let z : ⊥ = omega arith in absurd z
dense_long (c ∷ cs) fs h = refl

module _ (missing : Words4) (R : Rest) (coord : List ℕ) where
  run_points : (num s : ℕ) (es : List ℕ) → points_of (map_n (corner_of missing R coord num) s es) ≡ es
  unfolding map_n corner_of corner_by
  run_points num s [] = refl
  run_points num s (e ∷ es) = ap (λ (l : List ℕ). e ∷ l) (run_points num (suc s) es)

  -- FORMAT 6.2: run r, before faces that are left with the outlines os
  run_outline : (num : ℕ) (r : Run) (fs : List Face) (os : List Outline) → map points_of (dense fs) ≡ os
      → map points_of (dense (face_of missing R coord num r ∷ fs)) ≡ cond (kept (point_count R.head) r.items) (r.items ∷ os) os
  unfolding face_of dense
  run_outline num r fs os e = go (kept (point_count R.head) r.items) refl
    where
      go : (b : Bool) → kept (point_count R.head) r.items ≡ b
          → map points_of (dense (cond b (map_n (corner_of missing R coord num) r.start r.items) [] ∷ fs)) ≡ cond b (r.items ∷ os) os
      go true k =
          let l : 3 ≤ length r.items = kept_long (point_count R.head) r.items k in
          let f = map_n (corner_of missing R coord num) r.start r.items in
          ap (map points_of) (dense_long f fs (omega (arith, length_map_n (corner_of missing R coord num) r.start r.items)))
          ∙ (λ i. run_points num r.start r.items i ∷ e i)
      go false k = e

  -- FORMAT 6.2: the faces that are left are the kept runs
  dense_runs : (n : ℕ) (rs : List Run) → map points_of (dense (map_n (face_of missing R coord) n rs)) ≡ kept_runs (point_count R.head) rs
  unfolding map_n kept_runs dense
  dense_runs n [] = refl
  dense_runs n (r ∷ rs) = run_outline n r (map_n (face_of missing R coord) (suc n) rs) (kept_runs (point_count R.head) rs) (dense_runs (suc n) rs)

  pub list_outlines : map points_of (dense (faces_of missing R coord)) ≡ kept_runs (point_count R.head) (runs (entries coord))
  unfolding faces_of
  list_outlines = dense_runs 0 (runs (entries coord))

-- ---- nets of quads

-- FORMAT 8.3
pub grid_outlines_lem : (missing : Words4) (G : Rest) → map points_of (grid_faces missing G) ≡ grid_outlines G.head
unfolding grid_faces grid_face grid_corner corner_by quad grid_outlines
grid_outlines_lem missing G = map_tabs points_of (grid_face missing G) (z_dimension G.head - 1) (x_dimension G.head - 1)

-- ---- FORMAT 8.4: sides and caps

module _ (E : extruded.Extrusion) where
  side_outlines : map points_of (sides E) ≡ tabs (quad (point_number (length E.section))) (length E.spine - 1) (length E.section - 1)
  unfolding sides quad side_corner corner_at
  side_outlines = map_tabs points_of (quad (side_corner E)) (length E.spine - 1) (length E.section - 1)

  cap_outline : (i : ℕ) → points_of (cap_face E i) ≡ row_outline (length E.section) (cap_length E.section) i
  unfolding cap_face row_outline cap_corner corner_at
  cap_outline i = map_tab (cap_corner E i) (λ (c : Corner). c.point) (cap_length E.section) 0

  turned_outline : (i : ℕ) → points_of (reverse (cap_face E i)) ≡ reverse (row_outline (length E.section) (cap_length E.section) i)
  unfolding cap_face row_outline cap_corner corner_at
  turned_outline i =
      let k = cap_length E.section in
      ap points_of (tab_reverse (cap_corner E i) k)
      ∙ map_tab (λ (j : ℕ). cap_corner E i (k - 1 - j)) (λ (c : Corner). c.point) k 0
      ∙ sym (tab_reverse (point_number (length E.section) i) k)

  if_outline : (b : Bool) (f : Face) → map points_of (face_if b f) ≡ outline_if b (points_of f)
  if_outline true f = refl
  if_outline false f = refl

  pub extrusion_outlines_lem : map points_of (extrusion_faces E) ≡ extrusion_outlines E.head (length E.spine) (length E.section) (cap_length E.section)
  unfolding extrusion_faces caps extrusion_outlines
  extrusion_outlines_lem =
      let n = length E.spine in
      let k = cap_length E.section in
      let first = has_cap E.head.begin_cap k in
      let last = has_cap E.head.end_cap k in
      map-append points_of (sides E) (caps E)
      ∙ (λ i. side_outlines i
      ++ (map-append points_of (face_if first (reverse (cap_face E 0))) (face_if last (cap_face E (n - 1)))
      ∙ (λ j. (if_outline first (reverse (cap_face E 0)) ∙ ap (outline_if first) (turned_outline 0)) j
      ++ (if_outline last (cap_face E (n - 1)) ∙ ap (outline_if last) (cap_outline (n - 1))) j)) i)

-- of a block
module _ (bs : List ℕ) where
  spine_long : length (extrusion_of bs).spine ≡ spine_count (header_of bs)
  unfolding extrusion_of
  spine_long = length_tab _ (spine_count (header_of bs)) 0

  section_long : length (section_of bs (header_of bs)) ≡ section_count (header_of bs)
  unfolding section_of
  section_long = length_tab _ (section_count (header_of bs)) 0

  block_extrusion : map points_of (extrusion_faces (extrusion_of bs))
      ≡ extrusion_outlines (header_of bs) (spine_count (header_of bs)) (section_count (header_of bs)) (cap_length (section_of bs (header_of bs)))
  unfolding extrusion_of
  block_extrusion =
      extrusion_outlines_lem (extrusion_of bs)
      ∙ (λ i. extrusion_outlines (header_of bs) (spine_long i) (section_long i) (cap_length (section_of bs (header_of bs))))

-- ---- primitives

-- FORMAT 6.4: the face set that lists the primitives one by one has these outlines, and no others
closed_runs : {p : ℕ} (g : Topology) → p ≤ 0x8000_0000 → (s : ℕ) (l : List (List ℕ)) → All (Primitive p g) l → kept_runs p (runs_from s (flat (map closed l))) ≡ l
unfolding kept_runs runs_from flat
closed_runs g low s [] h = refl
closed_runs {p} g low s (ps ∷ l) h =
    let rest = kept_runs p (runs_from (s + (length ps + 1)) (flat (map closed l))) in
    ap (kept_runs p) (closed_first s ps l (goes_on low h.0))
    ∙ ap (λ (b : Bool). cond b (ps ∷ rest) rest) h.0.whole
    ∙ ap (λ (os : List Outline). ps ∷ os) (closed_runs g low (s + (length ps + 1)) l h.1)

pub primitive_outlines : (g : Topology) (bs : List ℕ)
    → kept_runs (point_count (header_of bs)) (listed_runs g bs (header_of bs)) ≡ kept_primitives (point_count (header_of bs)) g (entries (list_bytes bs (header_of bs) 1))
primitive_outlines g bs =
    let p = point_count (header_of bs) in
    let ws = entries (list_bytes bs (header_of bs) 1) in
    ap (λ (l : List ℕ). kept_runs p (runs l)) (list_closed p g ws)
    ∙ closed_runs g (omega (arith, count_narrow bs 0)) 0 (kept_primitives p g ws) (primitives_are p g ws)

-- ---- by kind

-- FORMAT 8, 18: what the mesh of a block is made of
pub record Soup (missing : Words4) (bs : List ℕ) : Type 0 where
  pub frame : Frame
  pub faces : List Face
  pub mesh_is : block_mesh missing bs ≡ mesh frame faces
  pub ccw_is : frame.ccw ≡ (header_of bs).ccw
  pub outlines_are : map points_of faces ≡ outlines bs

module _ (missing : Words4) (bs : List ℕ) where
  mesh_at : {k : Kind} → (header_of bs).kind ≡ k
      → block_mesh missing bs ≡ by_kind k (face_set_mesh missing bs) (line_set_mesh missing bs) (grid_mesh missing bs) (extrusion_mesh bs) (λ g. primitive_mesh missing g bs)
  unfolding block_mesh
  mesh_at e = ap (λ (k : Kind). by_kind k (face_set_mesh missing bs) (line_set_mesh missing bs) (grid_mesh missing bs) (extrusion_mesh bs) (λ g. primitive_mesh missing g bs)) e

  outlines_at : {k : Kind} → (header_of bs).kind ≡ k
      → outlines bs
      ≡ by_kind k (kept_runs (point_count (header_of bs)) (coord_runs bs (header_of bs))) [] (grid_outlines (header_of bs))
      (extrusion_outlines (header_of bs) (spine_count (header_of bs)) (section_count (header_of bs)) (cap_length (section_of bs (header_of bs))))
      (λ g. kept_runs (point_count (header_of bs)) (listed_runs g bs (header_of bs)))
  unfolding outlines
  outlines_at e =
      ap (λ (k : Kind). by_kind k (kept_runs (point_count (header_of bs)) (coord_runs bs (header_of bs))) [] (grid_outlines (header_of bs))
      (extrusion_outlines (header_of bs) (spine_count (header_of bs)) (section_count (header_of bs)) (cap_length (section_of bs (header_of bs))))
      (λ g. kept_runs (point_count (header_of bs)) (listed_runs g bs (header_of bs)))) e

  face_set_soup : (header_of bs).kind ≡ FaceSet → Soup missing bs
  unfolding face_set_mesh frame_of rest_of coord_in
  face_set_soup e = record {
    frame = frame_of (rest_of bs);
    faces = dense (faces_of missing (rest_of bs) (coord_in bs));
    mesh_is = mesh_at e ∙ mesh_dense (frame_of (rest_of bs)) (faces_of missing (rest_of bs) (coord_in bs));
    ccw_is = refl;
    outlines_are = list_outlines missing (rest_of bs) (coord_in bs) ∙ sym (outlines_at e);
  }

  grid_soup : (header_of bs).kind ≡ Grid → Soup missing bs
  unfolding grid_mesh convex_frame grid_of
  grid_soup e = record {
    frame = convex_frame (grid_of bs);
    faces = grid_faces missing (grid_of bs);
    mesh_is = mesh_at e;
    ccw_is = refl;
    outlines_are = grid_outlines_lem missing (grid_of bs) ∙ sym (outlines_at e);
  }

  extrusion_soup : (header_of bs).kind ≡ Extrusion → Soup missing bs
  unfolding extrusion_mesh extrusion_frame extrusion_of
  extrusion_soup e = record {
    frame = extrusion_frame (extrusion_of bs);
    faces = extrusion_faces (extrusion_of bs);
    mesh_is = mesh_at e;
    ccw_is = refl;
    outlines_are = block_extrusion bs ∙ sym (outlines_at e);
  }

  primitive_soup : (g : Topology) → (header_of bs).kind ≡ Primitives g → Soup missing bs
  unfolding primitive_mesh convex_frame rest_of coord_in
  primitive_soup g e = record {
    frame = convex_frame (rest_of bs);
    faces = dense (faces_of missing (rest_of bs) (listed_coord g bs));
    mesh_is = mesh_at e ∙ mesh_dense (convex_frame (rest_of bs)) (faces_of missing (rest_of bs) (listed_coord g bs));
    ccw_is = refl;
    outlines_are = list_outlines missing (rest_of bs) (listed_coord g bs)
        ∙ ap (λ (ws : List ℕ). kept_runs (point_count (header_of bs)) (runs ws)) (listed_entries g bs)
        ∙ sym (outlines_at e);
  }

  pub soup_of : is_lines (header_of bs).kind ≡ false → Soup missing bs
  soup_of lit = go (header_of bs).kind refl lit
    where
      go : (k : Kind) → (header_of bs).kind ≡ k → is_lines k ≡ false → Soup missing bs
      go FaceSet e l = face_set_soup e
      go LineSet e l = absurd (true≢false l)
      go Grid e l = grid_soup e
      go Extrusion e l = extrusion_soup e
      go (Primitives g) e l = primitive_soup g e
