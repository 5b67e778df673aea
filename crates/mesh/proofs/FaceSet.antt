-- The faces of two index lists that are equal outside one run: all others are the same, though each reads its attributes through its own index list.
use mathlib.Core.Path.{◌≡◌, refl, sym, ap, ◌∙◌, subst}
use mathlib.Core.Logic.{◌≢◌}
use mathlib.Core.Bool.{Bool, true, false, ◌||◌, cond}
use mathlib.Core.List.{List, [], ◌∷◌}
use Prim.Native.Nat.{ℕ, suc, ◌+◌, ◌*◌, ◌-◌, ◌≤◌, ◌<◌}
use native.Mathlib.Nat.{zero-add}
use native.Mathlib.Omega.{arith}
use borrow.Author.Tests.{ltb-true, ltb-false, lt-ltb, eq-eqb, ne_eqb}
use lib.Dec.{eqb, ltb}
use lib.ListN.{length, get_or, get_or-eq_default}
use Rattle.bits.specs.Bits.{entries}
use Rattle.bits.specs.declared.Words4.{Words4}
use Rattle.std.specs.Prelude.{Option}
use Rattle.std.specs.Prelude.{Some, None}
use Rattle.block.specs.Runs.{Run, runs, kept, corners, triangles, sum_over}
use Rattle.block.specs.Stream.{is_negative, chosen, entry_at, number_in, number_at}
use Rattle.block.specs.Value.{value2_at, value3_at, value4_at}
use Rattle.block.specs.Texture.{uv_words}
use Rattle.lists.specs.Loops.{All}
use Rattle.lists.specs.Lists.{map_n, total}
use Rattle.mesh.specs.Words.{no2, no3, no4}
use Rattle.mesh.specs.Soup.{Corner, Face}
use Rattle.mesh.specs.Vertices.{width}
use Rattle.mesh.specs.Texture.{fit_of, default_at}
use Rattle.mesh.specs.FaceSet.{Rest, point_count, normal_of, colour_of, texture_by, corner_by, corner_of, face_of, faces_of}
use Rattle.mesh.specs.OneRun.{names}
use Rattle.lists.proofs.Lists.{All_map, length_map_n, get_or_map_n, map_n_same, or_right}
use Rattle.mesh.proofs.Runs.{no_run, run_within, reads, OneRunOf, AllButRun, one_run_of}
use Rattle.mesh.proofs.OneFace.{gathers, AllBut}

-- ---- what a corner reads depends on the entry at its own place alone

-- two index lists have the same entry at place k
record Alike (x y : List ℕ) (k : ℕ) : Type 0 where
  in_x : k < length (entries x)
  in_y : k < length (entries y)
  same : get_or (entries x) k 0 ≡ get_or (entries y) k 0

unfoldable numbered : ℕ → (Option ℕ)
numbered e = cond (is_negative e) None (Some e)

number_there : (x : List ℕ) (k : ℕ) → k < length (entries x) → number_in x k ≡ numbered (get_or (entries x) k 0)
unfolding number_in entry_at numbered
number_there x k h =
    let a : eqb (length (entries x)) 0 ≡ false = ne_eqb (length (entries x)) 0 (λ e. omega arith) in
    let b : ltb k (length (entries x)) ≡ true = lt-ltb k (length (entries x)) h in
    rw (a, b)

module _ {x y : List ℕ} {k : ℕ} (alike : Alike x y k) where
  number_same : (own : List ℕ) (per_vertex : Bool) (num : ℕ) → number_at own x per_vertex k num ≡ number_at own y per_vertex k num
  unfolding number_at chosen
  number_same own per_vertex num = go per_vertex (eqb (length (entries own)) 0)
    where
      go : (p q : Bool) → cond p (number_in (cond q x own) k) (number_in own num) ≡ cond p (number_in (cond q y own) k) (number_in own num)
      go true true = number_there x k alike.in_x ∙ ap numbered alike.same ∙ sym (number_there y k alike.in_y)
      go true false = refl
      go false q = refl

  corner_same : (missing : Words4) (R : Rest) (num e : ℕ) → corner_of missing R x num k e ≡ corner_of missing R y num k e
  unfolding corner_of corner_by normal_of colour_of texture_by
  corner_same missing R num e =
      let H = R.head in
      let normal = number_same R.normal_index H.normal_per_vertex num in
      let colour = number_same R.colour_index H.color_per_vertex num in
      let texture = number_same R.texture_index true num in
      let uv = uv_words H.transformed R.settings.transform in
      λ t. record {
        point = e;
        gather = e;
        given = cond H.normals (value3_at R.normals (normal t) no3) no3;
        colour = cond H.colors (value4_at R.colours H.alpha (colour t) missing) no4;
        texture = cond H.texture_points (uv (value2_at R.textures (texture t) no2))
            (cond H.need_uvs (uv (default_at R.points (fit_of R.points (point_count R.head)) e)) no2);
      }

face_same : (missing : Words4) (R : Rest) (x y : List ℕ) (num : ℕ) (r : Run) → ((k : ℕ) → k < length r.items → Alike x y (r.start + k))
    → face_of missing R x num r ≡ face_of missing R y num r
unfolding face_of
face_same missing R x y num r alike =
    ap (λ (f : Face). cond (kept (point_count R.head) r.items) f [])
    (map_n_same (corner_of missing R x num) (corner_of missing R y num) r.start r.items (λ k l e. corner_same (alike k l) missing R num e))

-- ---- the faces, by their numbers

module _ (missing : Words4) (R : Rest) (x : List ℕ) where
  pub length_faces : length (faces_of missing R x) ≡ length (runs (entries x))
  unfolding faces_of
  length_faces = length_map_n (face_of missing R x) 0 (runs (entries x))

  pub face_at_lem : (j : ℕ) → j < length (runs (entries x)) → get_or (faces_of missing R x) j [] ≡ face_of missing R x j (get_or (runs (entries x)) j no_run)
  unfolding faces_of
  face_at_lem j b =
      get_or_map_n (face_of missing R x) 0 (runs (entries x)) j [] no_run b ∙ ap (λ (n : ℕ). face_of missing R x n (get_or (runs (entries x)) j no_run)) (zero-add j)

  face_past : (j : ℕ) → length (runs (entries x)) ≤ j → get_or (faces_of missing R x) j [] ≡ []
  face_past j b = get_or-eq_default (faces_of missing R x) [] {n = j} (omega (arith, length_faces))

  -- a face has the corners of its run, and three indices for each of its triangles
  length_is : (num : ℕ) (r : Run) → length (face_of missing R x num r) ≡ corners (point_count R.head) r.items
  unfolding face_of corners
  length_is num r = go (kept (point_count R.head) r.items)
    where
      go : (b : Bool) → length (cond b (map_n (corner_of missing R x num) r.start r.items) []) ≡ cond b (length r.items) 0
      go true = length_map_n (corner_of missing R x num) r.start r.items
      go false = refl

  pub width_is : (num : ℕ) (r : Run) → width (face_of missing R x num r) ≡ 3 * triangles (point_count R.head) r.items
  unfolding width corners triangles
  width_is num r = ap (λ (n : ℕ). 3 * (n - 2)) (length_is num r) ∙ go (kept (point_count R.head) r.items)
    where
      go : (b : Bool) → 3 * (cond b (length r.items) 0 - 2) ≡ 3 * cond b (length r.items - 2) 0
      go true = refl
      go false = refl

  -- FORMAT 4: so for all runs
  pub lengths_are : (n : ℕ) (rs : List Run) → total length (map_n (face_of missing R x) n rs) ≡ sum_over (corners (point_count R.head)) rs
  unfolding total sum_over map_n
  lengths_are n [] = refl
  lengths_are n (r ∷ rs) = λ i. length_is n r i + lengths_are (suc n) rs i

  pub widths_are : (n : ℕ) (rs : List Run) → total width (map_n (face_of missing R x) n rs) ≡ 3 * sum_over (triangles (point_count R.head)) rs
  unfolding total sum_over map_n
  widths_are n [] = refl
  widths_are n (r ∷ rs) = let e = width_is n r in let f = widths_are (suc n) rs in omega arith

  -- ---- its corners are gathered under the points that its run names

  named_corners : (num s : ℕ) (es : List ℕ) → All (λ (c : Corner). names es c.gather ≡ true) (map_n (corner_of missing R x num) s es)
  unfolding corner_of corner_by names map_n
  named_corners num s [] = tt
  named_corners num s (e ∷ es) = (
    ap (λ (b : Bool). b || names es e) (eq-eqb e e refl),
    All_map (λ (c : Corner) h. or_right (eqb e c.gather) (names es c.gather) h) (map_n (corner_of missing R x num) (suc s) es) (named_corners num (suc s) es),
  )

  gathers_corners : (num s : ℕ) (es : List ℕ) (p : ℕ) → gathers (map_n (corner_of missing R x num) s es) p ≡ names es p
  unfolding corner_of corner_by names map_n
  gathers_corners num s [] p = refl
  gathers_corners num s (e ∷ es) p = ap (λ (b : Bool). eqb e p || b) (gathers_corners num (suc s) es p)

  pub named_face : (num : ℕ) (r : Run) → All (λ (c : Corner). names r.items c.gather ≡ true) (face_of missing R x num r)
  unfolding face_of
  named_face num r = go (kept (point_count R.head) r.items)
    where
      go : (b : Bool) → All (λ (c : Corner). names r.items c.gather ≡ true) (cond b (map_n (corner_of missing R x num) r.start r.items) [])
      go true = named_corners num r.start r.items
      go false = tt

  pub unnamed_face : (num : ℕ) (r : Run) (p : ℕ) → names r.items p ≡ false → gathers (face_of missing R x num r) p ≡ false
  unfolding face_of
  unnamed_face num r p h = go (kept (point_count R.head) r.items)
    where
      go : (b : Bool) → gathers (cond b (map_n (corner_of missing R x num) r.start r.items) []) p ≡ false
      go true = gathers_corners num r.start r.items p ∙ h
      go false = refl

-- ---- all faces but one

module _ (missing : Words4) (R : Rest) (x y : List ℕ) (r : ℕ) (h : OneRunOf (entries x) (entries y) r) where
  but : AllButRun r (runs (entries x)) (runs (entries y))
  but = one_run_of (entries x) (entries y) r h

  alike_at : (n : ℕ) → n ≢ r → n < length (runs (entries x)) → n < length (runs (entries y))
      → (k : ℕ) → k < length (get_or (runs (entries x)) n no_run).items → Alike x y ((get_or (runs (entries x)) n no_run).start + k)
  alike_at n ne bx by k l =
      let e : get_or (runs (entries x)) n no_run ≡ get_or (runs (entries y)) n no_run = but.same n ne in
      let ly : k < length (get_or (runs (entries y)) n no_run).items = subst (λ (u : Run). k < length u.items) e l in
      record {
        in_x = (let w = run_within (entries x) n bx in omega arith);
        in_y = subst (λ (u : Run). u.start + k < length (entries y)) (sym e) (let w = run_within (entries y) n by in omega arith);
        same = reads (entries x) n bx k l ∙ (λ t. get_or (e t).items k 0) ∙ sym (reads (entries y) n by k ly)
            ∙ ap (λ (u : Run). get_or (entries y) (u.start + k) 0) (sym e);
      }

  same_face : (n : ℕ) → n ≢ r → get_or (faces_of missing R x) n [] ≡ get_or (faces_of missing R y) n []
  same_face n ne = go (ltb n (length (runs (entries x)))) refl
    where
      go : (b : Bool) → ltb n (length (runs (entries x))) ≡ b → get_or (faces_of missing R x) n [] ≡ get_or (faces_of missing R y) n []
      go true t =
          let bx : n < length (runs (entries x)) = ltb-true n (length (runs (entries x))) t in
          let by : n < length (runs (entries y)) = subst (λ (m : ℕ). n < m) but.long bx in
          face_at_lem missing R x n bx
          ∙ face_same missing R x y n (get_or (runs (entries x)) n no_run) (alike_at n ne bx by)
          ∙ ap (face_of missing R y n) (but.same n ne)
          ∙ sym (face_at_lem missing R y n by)
      go false t =
          let bx : length (runs (entries x)) ≤ n = ltb-false n (length (runs (entries x))) t in
          face_past missing R x n bx ∙ sym (face_past missing R y n (subst (λ (m : ℕ). m ≤ n) but.long bx))

  pub faces_but : AllBut r (faces_of missing R x) (faces_of missing R y)
  faces_but = record { long = length_faces missing R x ∙ but.long ∙ sym (length_faces missing R y); same = same_face }
