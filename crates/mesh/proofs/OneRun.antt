-- FORMAT 13: two blocks that are equal byte for byte outside one run of coordIndex show the same triangles in every other run.
use mathlib.Core.Path.{◌≡◌, refl, sym, ap, ◌∙◌, subst}
use mathlib.Core.Logic.{◌≢◌}
use mathlib.Core.Bool.{Bool, true, false, ◌&&◌, ◌||◌, cond, and-false, true≢false}
use mathlib.Core.List.{List, [], ◌∷◌, map}
use Prim.Native.Nat.{ℕ, ◌*◌, ◌-◌, ◌≤◌, ◌<◌}
use native.Mathlib.Nat.{zero-add}
use borrow.Author.Tests.{eqb-true, le-ltb}
use lib.Dec.{eqb, leb, ltb}
use lib.Ieee.{le}
use lib.ListN.{length, length-map, get_or, take, drop}
use Rattle.bits.specs.Bits.{entries}
use Rattle.bits.specs.declared.Words4.{Words4}
use Rattle.math.specs.Vector.{zero_f}
use Rattle.block.specs.Crease.{π, crease_of}
use Rattle.block.specs.Settings.{float_at, settings_of}
use Rattle.block.specs.declared.crease.CreaseRule.TheVariants.{Own, Every, Bound}
use Rattle.block.specs.Runs.{Run, kept, triangles, sum_over}
use Rattle.lists.specs.Loops.{All}
use Rattle.lists.specs.Lists.{join_n, total, all_below}
use Rattle.mesh.specs.Soup.{Corner, Face}
use Rattle.mesh.specs.Vertices.{Key, vertices, face_indices, indices_of, width}
use Rattle.mesh.specs.Mesh.{Slices, mesh_of, mesh, slices_of, shown_at, normal_at, part_of}
use Rattle.mesh.specs.FaceSet.{Rest, rest_of, point_count, coord_in, runs_in, face_of, faces_of, frame_of, face_set_mesh}
use Rattle.mesh.proofs.FaceSet.{length_faces, face_at_lem, width_is, widths_are, named_face, unnamed_face, faces_but}
use Rattle.mesh.specs.OneRun.{run_in, OneRun, run_part, names, crease_angle, NormalsApart, own, apart, supplied, SameTriangles, Parts, OthersStay}
use Rattle.lists.proofs.Lists.{All_map, take_map_n, join_n_same}
use Rattle.mesh.proofs.Runs.{no_run, one_run_of}
use Rattle.mesh.proofs.Corners.{part_is, length_face_indices}
use Rattle.mesh.proofs.Facts.{indices_within}
use Rattle.mesh.proofs.OneFace.{gathers, NormalsHold, generated_own, generated_apart, supplied_usable, one_face_lem, one_face_normals}
use Rattle.mesh.proofs.Bytes.{coords, rest_same}

-- ---- a run that names a point beyond the list is skipped

names_above : (n : ℕ) (es : List ℕ) (p : ℕ) → names es p ≡ true → n ≤ p → all_below n es ≡ false
unfolding names all_below
names_above n [] p h l = absurd (true≢false (sym h))
names_above n (e ∷ es) p h l = go (eqb e p) refl h (λ k. names_above n es p k l)
  where
    go : (b : Bool) → eqb e p ≡ b → (b || names es p) ≡ true → (names es p ≡ true → all_below n es ≡ false) → (ltb e n && all_below n es) ≡ false
    go true q k below = ap (λ (t : Bool). t && all_below n es) (le-ltb e n (subst (λ (m : ℕ). n ≤ m) (sym (eqb-true e p q)) l))
    go false q k below = ap (λ (t : Bool). ltb e n && t) (below k) ∙ and-false (ltb e n)

names_skipped : (n : ℕ) (es : List ℕ) (p : ℕ) → names es p ≡ true → n ≤ p → kept n es ≡ false
unfolding kept
names_skipped n es p h l = ap (λ (t : Bool). leb 3 (length es) && t) (names_above n es p h l) ∙ and-false (leb 3 (length es))

-- ---- the part of a run, computed from the runs alone, is the part of its face

module _ (missing : Words4) (bs : List ℕ) where
  abbrev is : List ℕ
  is = (slices_of (face_set_mesh missing bs)).indices

  faces : List Face
  faces = faces_of missing (rest_of bs) (coord_in bs)

  face_in_lem : (j : ℕ) → j < length (runs_in bs) → get_or faces j [] ≡ face_of missing (rest_of bs) (coord_in bs) j (run_in bs j)
  unfolding faces runs_in
  face_in_lem j b = face_at_lem missing (rest_of bs) (coord_in bs) j b

  part_of_run : (j : ℕ) → j < length (runs_in bs) → run_part bs is j ≡ part_of faces (face_set_mesh missing bs).indices j
  unfolding slices_of run_part part_of faces faces_of runs_in
  part_of_run j b =
      let R = rest_of bs in
      let x = coord_in bs in
      let w : 3 * triangles (point_count R.head) (run_in bs j).items ≡ width (get_or faces j []) =
      sym (ap width (face_in_lem j b) ∙ width_is missing R x j (run_in bs j)) in
      let t = sym (ap (total width) (take_map_n (face_of missing R x) 0 j (runs_in bs)) ∙ widths_are missing R x 0 (take j (runs_in bs))) in
      λ i. take (w i) (drop (t i) (face_set_mesh missing bs).indices)

  -- ---- the indices are the runs' parts, in the order of the runs' numbers

  pub parts_whole : join_n (λ (j : ℕ) (r : Run). run_part bs is j) 0 (runs_in bs) ≡ is
  unfolding slices_of face_set_mesh mesh mesh_of indices_of faces runs_in
  parts_whole =
      let F = frame_of (rest_of bs) in
      let vs = vertices F faces in
      join_n_same (λ (j : ℕ) (r : Run). run_part bs is j) (face_indices F faces vs) no_run [] 0 (runs_in bs) faces
      (sym (length_faces missing (rest_of bs) (coord_in bs)))
      (λ j b. ap (run_part bs is) (zero-add j) ∙ part_of_run j b
      ∙ part_is F faces vs j (subst (λ (n : ℕ). j < n) (sym (length_faces missing (rest_of bs) (coord_in bs))) b)
      ∙ ap (λ (k : ℕ). face_indices F faces vs k (get_or faces j [])) (sym (zero-add j)))

  -- three indices for each of its triangles; none for a run that is skipped, as one that names a point beyond the list
  pub part_length : (j : ℕ) → j < length (runs_in bs) → length (run_part bs is j) ≡ 3 * triangles (point_count (rest_of bs).head) (run_in bs j).items
  unfolding face_set_mesh mesh mesh_of faces runs_in
  part_length j b =
      let F = frame_of (rest_of bs) in
      let vs = vertices F faces in
      ap length (part_of_run j b ∙ part_is F faces vs j (subst (λ (n : ℕ). j < n) (sym (length_faces missing (rest_of bs) (coord_in bs))) b))
      ∙ length_face_indices F faces vs j (get_or faces j [])
      ∙ ap width (face_in_lem j b) ∙ width_is missing (rest_of bs) (coord_in bs) j (run_in bs j)

  pub part_skipped : (j : ℕ) → kept (point_count (rest_of bs).head) (run_in bs j).items ≡ false → run_part bs is j ≡ []
  unfolding run_part triangles
  part_skipped j e =
      ap (λ (b : Bool). take (3 * cond b (length (run_in bs j).items - 2) 0) (drop (3 * sum_over (triangles (point_count (rest_of bs).head)) (take j (runs_in bs))) is)) e

  pub parts : Parts bs is
  parts = record {
    whole = parts_whole;
    long = part_length;
    beyond = λ j p h l. part_skipped j (names_skipped (point_count (rest_of bs).head) (run_in bs j).items p h l);
  }

  -- FORMAT 11: every index names a vertex
  pub indices_made : All (λ (v : ℕ). v < length (slices_of (face_set_mesh missing bs)).sources) is
  unfolding slices_of face_set_mesh mesh mesh_of faces
  indices_made =
      let F = frame_of (rest_of bs) in
      subst (λ (n : ℕ). All (λ (v : ℕ). v < n) (mesh F faces).indices) (sym (length-map (vertices F faces) (λ (k : Key). k.point))) (indices_within F faces)

-- ---- two blocks

crease_own : (bs : List ℕ) → le (crease_angle bs) zero_f ≡ true → (rest_of bs).settings.crease ≡ Own
unfolding rest_of settings_of crease_of
crease_own bs e = ap (λ (t : Bool). cond t Own (cond (le π (crease_angle bs)) Every (Bound (float_at bs 1)))) e

module _ (missing : Words4) (b c : List ℕ) (r : ℕ) (h : OneRun b c r) where
  -- the words of the two meshes
  abbrev S : Slices
  S = slices_of (face_set_mesh missing b)

  abbrev T : Slices
  T = slices_of (face_set_mesh missing c)

  -- what the two blocks share, and the faces of b; those of c, with what they share
  R : Rest
  R = rest_of b

  fs : List Face
  fs = faces_of missing R (coord_in b)

  gs : List Face
  gs = faces_of missing R (coord_in c)

  in_faces : (j : ℕ) → j < length (runs_in b) → j < length fs
  unfolding fs runs_in
  in_faces j l = subst (λ (n : ℕ). j < n) (sym (length_faces missing R (coord_in b))) l

  numbers_same : length (runs_in b) ≡ length (runs_in c)
  unfolding runs_in
  numbers_same = (one_run_of (entries (coord_in b)) (entries (coord_in c)) r (coords b c r h)).long

  -- from two soups to two blocks, for whatever is read at a vertex
  across : {A : Type 0} (g : Slices → ℕ → A) (j : ℕ) → j < length (runs_in b)
      → map (g (slices_of (mesh (frame_of R) fs))) (part_of fs (mesh (frame_of R) fs).indices j) ≡ map (g (slices_of (mesh (frame_of R) gs))) (part_of gs (mesh (frame_of R) gs).indices j)
      → map (g S) (run_part b S.indices j) ≡ map (g T) (run_part c T.indices j)
  unfolding face_set_mesh faces fs gs R
  across g j l e =
      let rest : rest_of b ≡ rest_of c = rest_same b c r h in
      ap (map (g S)) (part_of_run missing b j l)
      ∙ e
      ∙ (λ i. let hs = faces_of missing (rest i) (coord_in c) in let M = mesh (frame_of (rest i)) hs in map (g (slices_of M)) (part_of hs M.indices j))
      ∙ sym (ap (map (g T)) (part_of_run missing c j (subst (λ (n : ℕ). j < n) numbers_same l)))

  -- the three conditions, on the faces
  hold : (j : ℕ) → j < length (runs_in b) → NormalsApart missing b c r j → NormalsHold (frame_of R) (get_or fs r []) (get_or gs r []) (get_or fs j [])
  unfolding frame_of fs gs R runs_in rest_of
  hold j l (own n e) = generated_own n (crease_own b e)
  hold j l (apart n k) =
      let x : get_or fs r [] ≡ face_of missing R (coord_in b) r (run_in b r) = face_at_lem missing R (coord_in b) r h.in_b in
      let y : get_or gs r [] ≡ face_of missing R (coord_in c) r (run_in c r) = face_at_lem missing R (coord_in c) r h.in_c in
      generated_apart n
      (subst (λ (f : Face). All (λ (q : Corner). (gathers (get_or fs r []) q.gather ≡ false) × (gathers (get_or gs r []) q.gather ≡ false)) f) (sym (face_at_lem missing R (coord_in b) j l))
      (All_map
      (λ (q : Corner) m. (
        ap (λ (f : Face). gathers f q.gather) x ∙ unnamed_face missing R (coord_in b) r (run_in b r) q.gather (k q.gather m).0,
        ap (λ (f : Face). gathers f q.gather) y ∙ unnamed_face missing R (coord_in c) r (run_in c r) q.gather (k q.gather m).1,
      ))
      (face_of missing R (coord_in b) j (run_in b j)) (named_face missing R (coord_in b) j (run_in b j))))
  hold j l (supplied n u) = supplied_usable n u

  same_triangles : (j : ℕ) → j < length (runs_in b) → j ≢ r → SameTriangles missing b c S T r j
  unfolding fs gs R
  same_triangles j l ne =
      let but = faces_but missing R (coord_in b) (coord_in c) r (coords b c r h) in
      record {
        corners = across shown_at j l (one_face_lem (frame_of R) fs gs r but j (in_faces j l) ne);
        normals = λ n. across normal_at j l (one_face_normals (frame_of R) fs gs r but j (in_faces j l) ne (hold j l n));
      }

-- FORMAT 13
pub one_run : (missing : Words4) (b c : List ℕ) (r : ℕ) → OneRun b c r → OthersStay missing b c (slices_of (face_set_mesh missing b)) (slices_of (face_set_mesh missing c)) r
one_run missing b c r h = record {
  numbers = numbers_same missing b c r h;
  others = same_triangles missing b c r h;
  parts_b = parts missing b;
  parts_c = parts missing c;
  within_b = indices_made missing b;
  within_c = indices_made missing c;
}
