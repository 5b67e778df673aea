-- FORMAT 11, 12.1: the edges of the triangles of a soup, by the points of its corners: face by face the outline's, but for those that have their way back.
use mathlib.Core.Path.{◌≡◌, refl, sym, ap, ◌∙◌}
use mathlib.Core.Bool.{Bool, true, false, cond}
use mathlib.Core.List.{List, [], ◌∷◌, map, map-map}
use Prim.Native.Nat.{ℕ, suc, ◌+◌, ◌<◌}
use native.Mathlib.Nat.{zero-add}
use native.Mathlib.Omega.{arith}
use lib.Dec.{eqb}
use lib.ListN.{length, get_or, length-map}
use Rattle.lists.specs.Loops.{pick}
use Rattle.lists.specs.Lists.{join_n, total}
use Rattle.lists.proofs.Lists.{join_n_same, map_join_n}
use Rattle.lists.proofs.Tabs.{map_tab, tab_list}
use Rattle.lists.proofs.Totals.{total_map, total_both}
use Rattle.lists.proofs.Tests.{and_comm}
use Rattle.polygon.specs.Ears.{Tri, outline as numbers}
use Rattle.polygon.specs.Edges.{back, edge, named, tris, around}
use Rattle.polygon.specs.Face.{triangles}
use Rattle.polygon.proofs.Projection.{length_spots}
use Rattle.polygon.proofs.Triangles.{triangles_boundary}
use Rattle.mesh.specs.Soup.{Corner, no_corner, Face, points_of, Frame}
use Rattle.mesh.specs.Normals.{outline, facing}
use Rattle.mesh.specs.Vertices.{Key, vertices, wound, locals, face_indices, indices_of}
use Rattle.mesh.specs.Mesh.{mesh_of, mesh, slices_of, Slices, Shown, shown_at, part_of}
use Rattle.mesh.proofs.Corners.{part_is, corner_shown, face_shown, part_shown}
use Rattle.closed.specs.Edges.{triangles_of, edges_in, steps_in}
use Rattle.closed.proofs.Edges.{tris_named, around_named, tris_append, wound_append, wound_on, wound_off}

edge_back : (p q : ℕ) → back (edge p q) ≡ edge q p
edge_back p q = λ i a b. pick (and_comm (eqb b p) (eqb a q) i) 1 0

-- ---- one face

-- FORMAT 18: corner i of a face is named by its point
abbrev corner_point : Face → ℕ → ℕ
corner_point f i = (get_or f i no_corner).point

module _ (F : Frame) where
  -- its triangles, by the points of their corners
  unfoldable pub point_tris : Face → List ℕ
  point_tris f = map (corner_point f) (locals F f)

  unfoldable pub face_edges : Face → ℕ → ℕ → ℕ
  face_edges f p q = tris (edge p q) (triangles_of (point_tris f))

  unfoldable pub face_steps : Face → ℕ → ℕ → ℕ
  face_steps f p q = around (edge p q) (points_of f)

  module _ (f : Face) where
    -- its triangles before they are wound
    abbrev plain : List Tri
    plain = triangles F.ccw F.convex (outline F f) (facing F f)

    corners_named : map (corner_point f) (numbers (length (outline F f))) ≡ points_of f
    unfolding numbers outline
    corners_named =
        let n : length (outline F f) ≡ length f = length_spots F.points (points_of f) ∙ length-map f (λ (c : Corner). c.point) in
        map_tab (λ (i : ℕ). i) (corner_point f) (length (outline F f)) 0
        ∙ sym (map_tab (λ (i : ℕ). get_or f i no_corner) (λ (c : Corner). c.point) (length (outline F f)) 0)
        ∙ ap points_of (tab_list no_corner f (length (outline F f)) (sym n))

    steps_named : (p q : ℕ) → around (named (corner_point f) (edge p q)) (numbers (length (outline F f))) ≡ face_steps f p q
    unfolding face_steps
    steps_named p q = around_named (edge p q) (corner_point f) (numbers (length (outline F f))) ∙ ap (around (edge p q)) corners_named

    plain_fills : (p q : ℕ) → tris (named (corner_point f) (edge p q)) plain + face_steps f q p ≡ tris (named (corner_point f) (edge q p)) plain + face_steps f p q
    plain_fills p q =
        let b = triangles_boundary F.ccw F.convex (outline F f) (facing F f) (corner_point f) p q in
        ap (λ (n : ℕ). tris (named (corner_point f) (edge p q)) plain + n) (sym (steps_named q p))
        ∙ b
        ∙ ap (λ (n : ℕ). tris (named (corner_point f) (edge q p)) plain + n) (steps_named p q)

    edges_wound : (p q : ℕ) → face_edges f p q ≡ tris (named (corner_point f) (edge p q)) (triangles_of (wound F.ccw plain))
    unfolding face_edges point_tris locals
    edges_wound p q = sym (tris_named (edge p q) (corner_point f) (wound F.ccw plain))

    edges_on : F.ccw ≡ true → (p q : ℕ) → face_edges f p q ≡ tris (named (corner_point f) (edge p q)) plain
    edges_on e p q =
        edges_wound p q
        ∙ ap (λ (b : Bool). tris (named (corner_point f) (edge p q)) (triangles_of (wound b plain))) e
        ∙ wound_on (named (corner_point f) (edge p q)) plain

    edges_off : F.ccw ≡ false → (p q : ℕ) → face_edges f p q ≡ tris (named (corner_point f) (edge q p)) plain
    edges_off e p q =
        edges_wound p q
        ∙ ap (λ (b : Bool). tris (named (corner_point f) (edge p q)) (triangles_of (wound b plain))) e
        ∙ wound_off (named (corner_point f) (edge p q)) plain
        ∙ ap (λ (h : ℕ → ℕ → ℕ). tris (named (corner_point f) h) plain) (edge_back p q)

    face_on : F.ccw ≡ true → (p q : ℕ) → face_edges f p q + face_steps f q p ≡ face_edges f q p + face_steps f p q
    face_on e p q = let a = edges_on e p q in let b = edges_on e q p in let c = plain_fills p q in omega arith

    face_off : F.ccw ≡ false → (p q : ℕ) → face_edges f p q + face_steps f p q ≡ face_edges f q p + face_steps f q p
    face_off e p q = let a = edges_off e p q in let b = edges_off e q p in let c = plain_fills q p in omega arith

  -- ---- all faces

  tris_joined : (h : ℕ → ℕ → ℕ) (n : ℕ) (fs : List Face)
      → tris h (triangles_of (join_n (λ (j : ℕ) (f : Face). point_tris f) n fs)) ≡ total (λ (f : Face). tris h (triangles_of (point_tris f))) fs
  unfolding join_n total triangles_of tris point_tris locals
  tris_joined h n [] = refl
  tris_joined h n (f ∷ fs) =
      ap (tris h) (wound_append (corner_point f) F.ccw (plain f) (join_n (λ (j : ℕ) (f : Face). map (corner_point f) (locals F f)) (suc n) fs))
      ∙ tris_append h (triangles_of (map (corner_point f) (wound F.ccw (plain f)))) (triangles_of (join_n (λ (j : ℕ) (f : Face). map (corner_point f) (locals F f)) (suc n) fs))
      ∙ ap (λ (k : ℕ). tris h (triangles_of (map (corner_point f) (wound F.ccw (plain f)))) + k) (tris_joined h (suc n) fs)

  module _ (fs : List Face) where
    abbrev S : Slices
    S = slices_of (mesh F fs)

    abbrev source : ℕ → ℕ
    source v = get_or S.sources v 0

    -- FORMAT 11: the source of a corner's vertex is the corner's point
    face_sources : (j : ℕ) → j < length fs → map source (face_indices F fs (vertices F fs) j (get_or fs j [])) ≡ point_tris (get_or fs j [])
    unfolding shown_at face_shown corner_shown mesh mesh_of point_tris
    face_sources j b =
        let f : Face = get_or fs j [] in
        ap (map source) (sym (part_is F fs (vertices F fs) j b))
        ∙ sym (map-map (λ (s : Shown). s.source) (shown_at S) (part_of fs (mesh F fs).indices j))
        ∙ ap (map (λ (s : Shown). s.source)) (part_shown F fs j b)
        ∙ map-map (λ (s : Shown). s.source) (λ (i : ℕ). corner_shown F (get_or f i no_corner)) (locals F f)

    mesh_sources : map source (mesh F fs).indices ≡ join_n (λ (j : ℕ) (f : Face). point_tris f) 0 fs
    unfolding mesh mesh_of indices_of
    mesh_sources =
        let vs : List Key = vertices F fs in
        map_join_n source (face_indices F fs vs) 0 fs
        ∙ join_n_same (λ (n : ℕ) (f : Face). map source (face_indices F fs vs n f)) (λ (j : ℕ) (f : Face). point_tris f) [] [] 0 fs fs refl
        (λ j b. ap (λ (k : ℕ). map source (face_indices F fs vs k (get_or fs j []))) (zero-add j) ∙ face_sources j b)

    edges_summed : (p q : ℕ) → edges_in S p q ≡ total (λ (f : Face). face_edges f p q) fs
    unfolding edges_in slices_of face_edges
    edges_summed p q =
        tris_named (edge p q) source (mesh F fs).indices
        ∙ ap (λ (l : List ℕ). tris (edge p q) (triangles_of l)) mesh_sources
        ∙ tris_joined (edge p q) 0 fs

    steps_summed : (p q : ℕ) → steps_in (map points_of fs) p q ≡ total (λ (f : Face). face_steps f p q) fs
    unfolding steps_in face_steps
    steps_summed p q = total_map (around (edge p q)) points_of fs

    -- FORMAT 18: of a soup
    pub soup_boundary : (p q : ℕ)
        → edges_in S p q + cond F.ccw (steps_in (map points_of fs) q p) (steps_in (map points_of fs) p q)
        ≡ edges_in S q p + cond F.ccw (steps_in (map points_of fs) p q) (steps_in (map points_of fs) q p)
    soup_boundary p q = go F.ccw refl
      where
        go : (b : Bool) → F.ccw ≡ b
            → edges_in S p q + cond b (steps_in (map points_of fs) q p) (steps_in (map points_of fs) p q)
            ≡ edges_in S q p + cond b (steps_in (map points_of fs) p q) (steps_in (map points_of fs) q p)
        go true e =
            let t = total_both (λ (f : Face). face_edges f p q) (λ (f : Face). face_steps f q p) (λ (f : Face). face_edges f q p) (λ (f : Face). face_steps f p q) (λ f. face_on f e p q) fs in
            let a = edges_summed p q in
            let b = edges_summed q p in
            let c = steps_summed p q in
            let d = steps_summed q p in
            omega arith
        go false e =
            let t = total_both (λ (f : Face). face_edges f p q) (λ (f : Face). face_steps f p q) (λ (f : Face). face_edges f q p) (λ (f : Face). face_steps f q p) (λ f. face_off f e p q) fs in
            let a = edges_summed p q in
            let b = edges_summed q p in
            let c = steps_summed p q in
            let d = steps_summed q p in
            omega arith
