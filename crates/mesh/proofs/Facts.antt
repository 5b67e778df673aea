-- What the code that makes a mesh needs of the definition: how many indices and vertices there are, that each index names a vertex, that no two vertices
-- are the same, and that a number once given stays.
use mathlib.Core.Path.{◌≡◌, refl, sym, ap, ◌∙◌, subst}
use mathlib.Core.List.{List, [], ◌++◌, map}
use Prim.Native.Nat.{ℕ, ◌+◌, ◌*◌, ◌≤◌, ◌<◌}
use native.Mathlib.Nat.{not-suc-le-zero, zero-add}
use native.Mathlib.Omega.{arith}
use lib.Dec.{T}
use lib.ListN.{length, get_or, length-map}
use Rattle.bits.specs.declared.Words4.{Words4}
use Rattle.bits.specs.Bits.{entries}
use Rattle.block.specs.Runs.{runs, corners, triangles, sum_over}
use Rattle.lists.specs.Loops.{All}
use Rattle.lists.specs.Lists.{map_n, join_n, total, has, place, firsts}
use Rattle.mesh.specs.Words.{words2, words3, words4, point_words}
use Rattle.mesh.specs.Soup.{Face, Frame}
use Rattle.mesh.specs.Vertices.{Key, no_key, same_key, keys_of, vertices, locals, face_indices, indices_of, width}
use Rattle.mesh.specs.Mend.{mended}
use Rattle.mesh.specs.Mesh.{mesh_of, mesh, Slices, slices_of}
use Rattle.mesh.specs.FaceSet.{Rest, rest_of, point_count, coord_in, runs_in, faces_of, frame_of, face_set_mesh}
use Rattle.mesh.proofs.FaceSet.{lengths_are, widths_are}
use Rattle.lists.proofs.Lists.{length_map_n, length_words, All_map, All_of_map, All_join_n, length_join_n, length_firsts, Distinct, firsts_distinct, firsts_append, place_firsts}
use Rattle.mesh.proofs.Keys.{same_key_self}
use Rattle.mesh.proofs.Corners.{length_keys, length_face_indices, locals_within, number_lt}

module _ (F : Frame) (fs : List Face) where
  -- FORMAT 4: N
  pub length_indices : (vs : List Key) → length (indices_of F fs vs) ≡ total width fs
  unfolding indices_of
  length_indices vs = length_join_n (face_indices F fs vs) width (length_face_indices F fs vs) 0 fs

  -- at most one vertex for each corner
  pub length_vertices : length (vertices F fs) ≤ total length fs
  unfolding vertices keys_of
  length_vertices =
      let a : length (vertices F fs) ≤ 0 + length (join_n (keys_of F fs) 0 fs) = length_firsts same_key [] (join_n (keys_of F fs) 0 fs) in
      let e : length (join_n (keys_of F fs) 0 fs) ≡ total length fs = length_join_n (keys_of F fs) length (length_keys F fs) 0 fs in
      omega arith

  pub distinct_vertices : Distinct same_key (vertices F fs)
  unfolding vertices
  distinct_vertices = firsts_distinct same_key same_key_self [] (join_n (keys_of F fs) 0 fs) (λ v d b. absurd (not-suc-le-zero b))

  pub indices_within : All (λ (i : ℕ). i < length (vertices F fs)) (mesh F fs).indices
  unfolding mesh mesh_of indices_of face_indices
  indices_within =
      let vs : List Key = vertices F fs in
      let P : ℕ → Type 0 = λ (i : ℕ). i < length vs in
      All_join_n P (face_indices F fs vs) [] 0 fs
      (λ j b. subst (λ (k : ℕ). All P (face_indices F fs vs k (get_or fs j []))) (sym (zero-add j))
      (All_of_map P (λ (i : ℕ). place same_key (get_or (keys_of F fs j (get_or fs j [])) i no_key) vs) (locals F (get_or fs j []))
      (All_map (λ (i : ℕ) h. number_lt F fs j b i h) (locals F (get_or fs j [])) (locals_within F (get_or fs j [])))))

-- FORMAT 4: how long the slices are, by the number of vertices
pub record Sized (S : Slices) (n : ℕ) : Type 0 where
  pub sources : length S.sources ≡ n
  pub positions : length S.positions ≡ 3 * n
  pub normals : length S.normals ≡ 3 * n
  pub colours : length S.colours ≡ 4 * n
  pub textures : length S.textures ≡ 2 * n

pub slices_sized : (F : Frame) (vs : List Key) (is : List ℕ) → Sized (slices_of (mesh_of F vs is)) (length vs)
unfolding slices_of mesh_of
slices_sized F vs is = record {
  sources = length-map vs (λ (k : Key). k.point);
  positions = length_words words3 3 (λ x. refl) (map (λ (k : Key). point_words F.points k.point) vs) ∙ ap (λ (n : ℕ). 3 * n) (length-map vs (λ (k : Key). point_words F.points k.point));
  normals = length_words words3 3 (λ x. refl) (map_n (mended F vs is) 0 vs) ∙ ap (λ (n : ℕ). 3 * n) (length_map_n (mended F vs is) 0 vs);
  colours = length_words words4 4 (λ x. refl) (map (λ (k : Key). k.colour) vs) ∙ ap (λ (n : ℕ). 4 * n) (length-map vs (λ (k : Key). k.colour));
  textures = length_words words2 2 (λ x. refl) (map (λ (k : Key). k.texture) vs) ∙ ap (λ (n : ℕ). 2 * n) (length-map vs (λ (k : Key). k.texture));
}

-- of the keys ks the vertices made so far: one with a number keeps it, whatever keys are still to come
pub number_stays : (k : Key) (ks more : List Key) → T (has same_key k (firsts same_key [] ks))
    → place same_key k (firsts same_key [] (ks ++ more)) ≡ place same_key k (firsts same_key [] ks)
number_stays k ks more t =
    ap (place same_key k) (firsts_append same_key [] ks more)
    ∙ place_firsts same_key k (firsts same_key [] ks) more t

-- FORMAT 4: of the faces of an index list, from its runs alone, in any frame
module _ (missing : Words4) (R : Rest) (coord : List ℕ) (F : Frame) where
  pub list_indices : length (mesh F (faces_of missing R coord)).indices ≡ 3 * sum_over (triangles (point_count R.head)) (runs (entries coord))
  unfolding mesh mesh_of faces_of
  list_indices = let fs = faces_of missing R coord in length_indices F fs (vertices F fs) ∙ widths_are missing R coord 0 (runs (entries coord))

  pub list_vertices : length (mesh F (faces_of missing R coord)).sources ≤ sum_over (corners (point_count R.head)) (runs (entries coord))
  unfolding mesh mesh_of faces_of
  list_vertices =
      let fs = faces_of missing R coord in
      let e = length-map (vertices F fs) (λ (k : Key). k.point) in
      omega (arith, length_vertices F fs, lengths_are missing R coord 0 (runs (entries coord)))

-- of a face set
module _ (missing : Words4) (bs : List ℕ) where
  pub face_set_indices : length (face_set_mesh missing bs).indices ≡ 3 * sum_over (triangles (point_count (rest_of bs).head)) (runs_in bs)
  unfolding face_set_mesh runs_in
  face_set_indices = list_indices missing (rest_of bs) (coord_in bs) (frame_of (rest_of bs))

  pub face_set_vertices : length (face_set_mesh missing bs).sources ≤ sum_over (corners (point_count (rest_of bs).head)) (runs_in bs)
  unfolding face_set_mesh runs_in
  face_set_vertices = list_vertices missing (rest_of bs) (coord_in bs) (frame_of (rest_of bs))
