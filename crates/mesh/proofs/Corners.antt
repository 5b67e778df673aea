-- What a face shows comes from that face alone: its part of the indices, read through the mesh's own vertices.
use mathlib.Core.Path.{◌≡◌, refl, sym, ap, ◌∙◌, subst}
use mathlib.Core.Bool.{Bool, true, false}
use mathlib.Core.List.{List, [], ◌∷◌, map, map-map}
use Prim.Native.Nat.{ℕ, ◌+◌, ◌*◌, ◌-◌, ◌<◌}
use native.Mathlib.Nat.{zero-add}
use native.Mathlib.Omega.{arith}
use lib.Dec.{T}
use lib.ListN.{length, get_or, length-map}
use Rattle.bits.specs.declared.Words3.{Words3}
use Rattle.lists.specs.Loops.{All}
use Rattle.polygon.specs.Points.{spot, spots}
use Rattle.polygon.specs.Ears.{Tri}
use Rattle.polygon.specs.Edges.{Within}
use Rattle.polygon.specs.Face.{triangles}
use Rattle.polygon.proofs.Triangles.{triangles_count, triangles_within}
use Rattle.lists.specs.Lists.{map_n, join_n, has, place}
use Rattle.mesh.specs.Words.{words2, words3, words4, no2, no3, no4, point_words}
use Rattle.mesh.specs.Soup.{Corner, no_corner, Face, points_of, Frame}
use Rattle.mesh.specs.Normals.{outline, facing, corner_normal}
use Rattle.mesh.specs.Vertices.{Key, no_key, same_key, key_of, keys_of, vertices, wound, locals, face_indices, indices_of, width}
use Rattle.mesh.specs.Mend.{Usable, renorm, first_normal, mended}
use Rattle.mesh.specs.Mesh.{mesh_of, mesh, slices_of, Shown, shown_at, normal_at, part_of}
use Rattle.lists.proofs.Lists.{All_map, All_get_or, map_All, get_or_map_lt, get_or_map_n, length_map_n, piece, in_flat, has_firsts_new, has_get_or, has_join_n, place_lt, get_or_place}
use Rattle.mesh.proofs.Keys.{same_key_sound, same_key_self}
use Rattle.mesh.proofs.Usable.{mend_usable}

-- ---- the corners of a face's triangles: three for each of its n - 2, each one of its own

length_wound : (ccw : Bool) (ts : List Tri) → length (wound ccw ts) ≡ 3 * length ts
unfolding wound
length_wound ccw [] = refl
length_wound ccw (t ∷ ts) = let e : length (wound ccw ts) ≡ 3 * length ts = length_wound ccw ts in omega arith

wound_within : (ccw : Bool) (n : ℕ) (ts : List Tri) → All (Within n) ts → All (λ (i : ℕ). i < n) (wound ccw ts)
unfolding wound
wound_within ccw n [] h = tt
wound_within true n (t ∷ ts) h = (h.0.0, (h.0.1, (h.0.2, wound_within true n ts h.1)))
wound_within false n (t ∷ ts) h = (h.0.0, (h.0.2, (h.0.1, wound_within false n ts h.1)))

module _ (F : Frame) where
  length_outline : (f : Face) → length (outline F f) ≡ length f
  unfolding outline spots
  length_outline f = length-map (points_of f) (spot F.points) ∙ length-map f (λ (c : Corner). c.point)

  pub length_locals : (f : Face) → length (locals F f) ≡ width f
  unfolding locals width
  length_locals f =
      length_wound F.ccw (triangles F.ccw F.convex (outline F f) (facing F f))
      ∙ ap (λ (k : ℕ). 3 * k) (triangles_count F.ccw F.convex (outline F f) (facing F f) ∙ ap (λ (k : ℕ). k - 2) (length_outline f))

  pub locals_within : (f : Face) → All (λ (i : ℕ). i < length f) (locals F f)
  unfolding locals
  locals_within f =
      subst (λ (n : ℕ). All (λ (i : ℕ). i < n) (locals F f)) (length_outline f)
      (wound_within F.ccw (length (outline F f)) (triangles F.ccw F.convex (outline F f) (facing F f))
      (triangles_within F.ccw F.convex (outline F f) (facing F f)))

  pub length_face_indices : (fs : List Face) (vs : List Key) (num : ℕ) (f : Face) → length (face_indices F fs vs num f) ≡ width f
  unfolding face_indices
  length_face_indices fs vs num f = length-map (locals F f) (λ (i : ℕ). place same_key (get_or (keys_of F fs num f) i no_key) vs) ∙ length_locals f

  -- the part of the indices that face j made is what the definition makes of face j
  pub part_is : (fs : List Face) (vs : List Key) (j : ℕ) → j < length fs → part_of fs (indices_of F fs vs) j ≡ face_indices F fs vs j (get_or fs j [])
  unfolding part_of indices_of
  part_is fs vs j b =
      piece (face_indices F fs vs) width (length_face_indices fs vs) fs 0 j [] b ∙ ap (λ (k : ℕ). face_indices F fs vs k (get_or fs j [])) (zero-add j)

  -- ---- the vertex at the number of a corner's key is that corner's key

  pub length_keys : (fs : List Face) (num : ℕ) (f : Face) → length (keys_of F fs num f) ≡ length f
  unfolding keys_of
  length_keys fs num f = length-map f (key_of F fs num f)

  pub get_or_keys : (fs : List Face) (num : ℕ) (f : Face) (i : ℕ) → i < length f → get_or (keys_of F fs num f) i no_key ≡ key_of F fs num f (get_or f i no_corner)
  unfolding keys_of
  get_or_keys fs num f i h = get_or_map_lt (key_of F fs num f) f i no_key no_corner h

  -- the number of corner i of face j
  abbrev pub number_of : List Face → ℕ → ℕ → ℕ
  number_of fs j i = place same_key (get_or (keys_of F fs j (get_or fs j [])) i no_key) (vertices F fs)

  pub key_there : (fs : List Face) (j : ℕ) → j < length fs → (i : ℕ) → i < length (get_or fs j [])
      → T (has same_key (get_or (keys_of F fs j (get_or fs j [])) i no_key) (vertices F fs))
  unfolding vertices keys_of
  key_there fs j b i h =
      let f : Face = get_or fs j [] in
      let k : Key = get_or (keys_of F fs j f) i no_key in
      has_firsts_new same_key same_key_sound same_key_self k [] (join_n (keys_of F fs) 0 fs)
      (has_join_n same_key (keys_of F fs) k fs 0 j [] b
      (subst (λ (m : ℕ). T (has same_key k (keys_of F fs m f))) (sym (zero-add j))
      (has_get_or same_key same_key_self (keys_of F fs j f) i no_key (subst (λ (n : ℕ). i < n) (sym (length_keys fs j f)) h))))

  pub number_lt : (fs : List Face) (j : ℕ) → j < length fs → (i : ℕ) → i < length (get_or fs j []) → number_of fs j i < length (vertices F fs)
  number_lt fs j b i h = place_lt same_key _ (vertices F fs) (key_there fs j b i h)

  pub vertex_is : (fs : List Face) (j : ℕ) → j < length fs → (i : ℕ) → i < length (get_or fs j [])
      → get_or (vertices F fs) (number_of fs j i) no_key ≡ key_of F fs j (get_or fs j []) (get_or (get_or fs j []) i no_corner)
  vertex_is fs j b i h =
      get_or_place same_key same_key_sound _ (vertices F fs) no_key (key_there fs j b i h) ∙ get_or_keys fs j (get_or fs j []) i h

  -- ---- what stands at a vertex number

  unfoldable pub key_shown : Key → Shown
  key_shown k = record { source = k.point; position = words3 (point_words F.points k.point); colour = words4 k.colour; texture = words2 k.texture }

  shown_key : (vs : List Key) (is : List ℕ) (v : ℕ) → v < length vs → shown_at (slices_of (mesh_of F vs is)) v ≡ key_shown (get_or vs v no_key)
  unfolding shown_at slices_of mesh_of key_shown
  shown_key vs is v b =
      let position : Key → Words3 = λ (k : Key). point_words F.points k.point in
      λ i. record {
        source = get_or_map_lt (λ (k : Key). k.point) vs v 0 no_key b i;
        position = (in_flat words3 3 (λ x. refl) (map position vs) v no3 (subst (λ (n : ℕ). v < n) (sym (length-map vs position)) b)
            ∙ ap words3 (get_or_map_lt position vs v no3 no_key b)) i;
        colour = (in_flat words4 4 (λ x. refl) (map (λ (k : Key). k.colour) vs) v no4 (subst (λ (n : ℕ). v < n) (sym (length-map vs (λ (k : Key). k.colour))) b)
            ∙ ap words4 (get_or_map_lt (λ (k : Key). k.colour) vs v no4 no_key b)) i;
        texture = (in_flat words2 2 (λ x. refl) (map (λ (k : Key). k.texture) vs) v no2 (subst (λ (n : ℕ). v < n) (sym (length-map vs (λ (k : Key). k.texture))) b)
            ∙ ap words2 (get_or_map_lt (λ (k : Key). k.texture) vs v no2 no_key b)) i;
      }

  normal_key : (vs : List Key) (is : List ℕ) (v : ℕ) → v < length vs → Usable (get_or vs v no_key).normal
      → normal_at (slices_of (mesh_of F vs is)) v ≡ words3 (renorm (get_or vs v no_key).normal)
  unfolding normal_at slices_of mesh_of mended
  normal_key vs is v b u =
      in_flat words3 3 (λ x. refl) (map_n (mended F vs is) 0 vs) v no3 (subst (λ (n : ℕ). v < n) (sym (length_map_n (mended F vs is) 0 vs)) b)
      ∙ ap words3 (get_or_map_n (mended F vs is) 0 vs v no3 no_key b ∙ mend_usable (get_or vs v no_key).normal (first_normal F vs (0 + v) is) u)

  -- ---- the corners of a face, from the face alone

  unfoldable pub corner_shown : Corner → Shown
  corner_shown c = record { source = c.point; position = words3 (point_words F.points c.point); colour = words4 c.colour; texture = words2 c.texture }

  unfoldable pub face_shown : Face → List Shown
  face_shown f = map (λ (i : ℕ). corner_shown (get_or f i no_corner)) (locals F f)

  corner_shown_lem : (fs : List Face) (j : ℕ) → j < length fs → (i : ℕ) → i < length (get_or fs j [])
      → shown_at (slices_of (mesh F fs)) (number_of fs j i) ≡ corner_shown (get_or (get_or fs j []) i no_corner)
  unfolding mesh corner_shown key_shown key_of
  corner_shown_lem fs j b i h =
      shown_key (vertices F fs) (indices_of F fs (vertices F fs)) (number_of fs j i) (number_lt fs j b i h) ∙ ap key_shown (vertex_is fs j b i h)

  -- what a mesh has at the corners of its part j, by what it has at each corner of face j
  part_by : {A : Type 0} (fs : List Face) (j : ℕ) → j < length fs → (g : ℕ → A) (h : Corner → A)
      → ((i : ℕ) → i < length (get_or fs j []) → g (number_of fs j i) ≡ h (get_or (get_or fs j []) i no_corner))
      → map g (part_of fs (mesh F fs).indices j) ≡ map (λ (i : ℕ). h (get_or (get_or fs j []) i no_corner)) (locals F (get_or fs j []))
  unfolding mesh mesh_of face_indices
  part_by fs j b g h each =
      let f : Face = get_or fs j [] in
      ap (map g) (part_is fs (vertices F fs) j b)
      ∙ map-map g (number_of fs j) (locals F f)
      ∙ map_All (λ (i : ℕ). g (number_of fs j i)) (λ (i : ℕ). h (get_or f i no_corner)) (locals F f)
      (All_map (λ (i : ℕ) l. each i l) (locals F f) (locals_within f))

  pub part_shown : (fs : List Face) (j : ℕ) → j < length fs
      → map (shown_at (slices_of (mesh F fs))) (part_of fs (mesh F fs).indices j) ≡ face_shown (get_or fs j [])
  unfolding face_shown
  part_shown fs j b = part_by fs j b (shown_at (slices_of (mesh F fs))) corner_shown (corner_shown_lem fs j b)

  corner_normal_lem : (fs : List Face) (j : ℕ) → j < length fs → (i : ℕ) → i < length (get_or fs j [])
      → Usable (corner_normal F fs j (get_or fs j []) (get_or (get_or fs j []) i no_corner))
      → normal_at (slices_of (mesh F fs)) (number_of fs j i) ≡ words3 (renorm (corner_normal F fs j (get_or fs j []) (get_or (get_or fs j []) i no_corner)))
  unfolding mesh key_of
  corner_normal_lem fs j b i h u =
      let e = vertex_is fs j b i h in
      normal_key (vertices F fs) (indices_of F fs (vertices F fs)) (number_of fs j i) (number_lt fs j b i h) (subst (λ (k : Key). Usable k.normal) (sym e) u)
      ∙ ap (λ (k : Key). words3 (renorm k.normal)) e

  pub part_normals : (fs : List Face) (j : ℕ) → j < length fs
      → All (λ (c : Corner). Usable (corner_normal F fs j (get_or fs j []) c)) (get_or fs j [])
      → map (normal_at (slices_of (mesh F fs))) (part_of fs (mesh F fs).indices j)
      ≡ map (λ (i : ℕ). words3 (renorm (corner_normal F fs j (get_or fs j []) (get_or (get_or fs j []) i no_corner)))) (locals F (get_or fs j []))
  part_normals fs j b us =
      let f : Face = get_or fs j [] in
      part_by fs j b (normal_at (slices_of (mesh F fs))) (λ (c : Corner). words3 (renorm (corner_normal F fs j f c)))
      (λ i h. corner_normal_lem fs j b i h (All_get_or (λ (c : Corner). Usable (corner_normal F fs j f c)) f us no_corner i h))
