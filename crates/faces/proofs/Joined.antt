-- The indices from the tables are those of the mesh's definition.
use mathlib.Core.Path.{◌≡◌, refl, sym, ap, ◌∙◌, subst}
use mathlib.Core.Bool.{Bool}
use mathlib.Core.List.{List, [], ◌∷◌, map}
use Prim.Native.Nat.{ℕ, zero, suc, ◌+◌, ◌-◌, ◌*◌, ◌≤◌, ◌<◌}
use native.Mathlib.Nat.{zero-add}
use native.Mathlib.Omega.{arith}
use lib.Ieee.{Float}
use lib.ListN.{length, get_or, length-append}
use Rattle.math.specs.declared.vector.V3.{V3}
use Rattle.lists.specs.Loops.{tab}
use Rattle.polygon.specs.Points.{spots}
use Rattle.polygon.specs.Facing.{newell}
use Rattle.polygon.specs.Plane.{handed}
use Rattle.polygon.specs.Face.{triangles}
use Rattle.lists.specs.Lists.{place, flat}
use Rattle.mesh.specs.Soup.{Face, points_of, Frame}
use Rattle.mesh.specs.Normals.{outline, facing}
use Rattle.mesh.specs.Vertices.{Key, no_key, same_key, keys_of, wound, locals, face_indices, indices_of}
use Rattle.lists.proofs.Lists.{All_map, map_All}
use Rattle.mesh.proofs.Corners.{locals_within, get_or_keys}
use Rattle.tables.specs.declared.layout.Plan.{Plan}
use Rattle.lists.specs.Parts.{seg}
use Rattle.tables.specs.Soups.{start_in, named_in, bare, Sound, Holds}
use Rattle.lists.proofs.Keep.{seg_at}
use Rattle.lists.proofs.Pieces.{flat_join}
use Rattle.tables.proofs.Stays.{start_le, names_in}
use Rattle.tables.proofs.Held.{faces_held, face_held, start_held}
use Rattle.faces.specs.Naming.{numbered}
use Rattle.faces.specs.Indices.{outline_in, facing_in, triangles_in, corners_made, one_face, all_faces, Named, Made}
use Rattle.faces.proofs.Pieces.{length_one}

points_bare : (f : Face) → points_of (map bare f) ≡ points_of f
points_bare [] = refl
points_bare (c ∷ f) = ap (λ (l : List ℕ). c.point ∷ l) (points_bare f)

module _ {w : List ℕ} {t : Plan} {F : Frame} {fs : List Face} {vs : List Key} (H : Holds w t F fs) (N : Named w t F fs vs) where
  -- the vertex number of a corner, as it is read
  named_at : (j i : ℕ) → j < t.faces → i < length (get_or fs j [])
      → get_or (seg w (t.named + start_in w t j) (start_in w t (suc j) - start_in w t j)) i 0 ≡ place same_key (get_or (keys_of F fs j (get_or fs j [])) i no_key) vs
  unfolding named_in
  named_at j i h b =
      let s = start_held H j h in
      let e : t.named + start_in w t j + i ≡ t.named + (start_in w t j + i) = omega arith in
      seg_at w (t.named + start_in w t j) (start_in w t (suc j) - start_in w t j) i (omega (arith, s, b))
      ∙ ap (λ (k : ℕ). get_or w k 0) e ∙ N.at j i h b ∙ ap (λ (k : Key). place same_key k vs) (sym (get_or_keys F fs j (get_or fs j []) i b))

  face_joined : (j : ℕ) → j < t.faces → one_face w t F.ccw F.convex j ≡ face_indices F fs vs j (get_or fs j [])
  unfolding one_face corners_made triangles_in facing_in outline_in numbered face_indices locals outline facing
  face_joined j h =
      let f : Face = get_or fs j [] in
      let a : ℕ = start_in w t j in
      let n : ℕ = start_in w t (suc j) - start_in w t j in
      let q : seg w (t.corners + a) n ≡ points_of f = sym (names_in H.sound j h) ∙ ap points_of (sym (face_held H j h)) ∙ points_bare f in
      let p : outline_in w t a n ≡ outline F f = λ i. spots (H.points i) (q i) in
      let l : wound F.ccw (triangles_in w t F.ccw F.convex a n) ≡ locals F f
      = ap (λ (s : List V3). wound F.ccw (triangles F.ccw F.convex s (handed F.ccw (newell s)))) p in
      ap (map (λ (i : ℕ). get_or (seg w (t.named + a) n) i 0)) l
      ∙ map_All (λ (i : ℕ). get_or (seg w (t.named + a) n) i 0) (λ (i : ℕ). place same_key (get_or (keys_of F fs j f) i no_key) vs) (locals F f)
      (All_map (λ i b. named_at j i h b) (locals F f) (locals_within F f))

  -- FORMAT 12.1: the tables hold the soup and its vertex numbers, so what is made is the mesh's indices
  pub faces_joined : all_faces w t F.ccw F.convex ≡ indices_of F fs vs
  unfolding all_faces indices_of
  faces_joined =
      let l : length fs ≡ t.faces = faces_held H in
      ap (λ (k : ℕ). flat (tab (one_face w t F.ccw F.convex) k 0)) (sym l)
      ∙ flat_join (one_face w t F.ccw F.convex) (face_indices F fs vs) [] 0 fs
      (λ j b. subst (λ (k : ℕ). one_face w t F.ccw F.convex k ≡ face_indices F fs vs k (get_or fs j [])) (sym (zero-add j)) (face_joined j (omega (arith, b, l))))

  -- and so is what `all_faces` leaves
  pub made_joined : {f : List Float} {r : ℕ} {o o' w' : List ℕ} {f' : List Float} → Made t (all_faces w t F.ccw F.convex) f r o o' w w' f'
      → Made t (indices_of F fs vs) f r o o' w w' f'
  made_joined {f} {r} {o} {o'} {w'} {f'} M = subst (λ (xs : List ℕ). Made t xs f r o o' w w' f') faces_joined M

-- FORMAT 4: three indices a corner are enough
module _ {w : List ℕ} {t : Plan} (S : Sound w t) (ccw convex : Bool) where
  few_from : (k g : ℕ) → g + k ≡ t.faces → length (flat (tab (one_face w t ccw convex) k g)) + start_in w t g * 3 ≤ t.count * 3
  unfolding tab flat
  few_from zero g h = let l = start_le S g (omega arith) in omega arith
  few_from (suc k) g h =
      let a = length-append (one_face w t ccw convex g) (flat (tab (one_face w t ccw convex) k (suc g))) in
      let b = length_one S ccw convex g (omega arith) in
      let r = S.rises g (omega arith) in
      let i = few_from k (suc g) (omega arith) in
      omega (arith, a, b, r, i)
