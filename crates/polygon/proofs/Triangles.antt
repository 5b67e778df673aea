-- One face: the fan of its outline as it is written, and what `triangulate` leaves in a slice. Then the laws of its triangles.
use mathlib.Core.Path.{◌≡◌, sym, ap, ◌∙◌, subst}
use mathlib.Core.Bool.{Bool, true, false}
use mathlib.Core.List.{List, [], ◌∷◌, map}
use Prim.Native.Nat.{ℕ, ◌+◌, ◌-◌, ◌*◌, ◌≤◌, ◌<◌}
use native.Mathlib.Omega.{arith}
use lib.ListN.{length, get_or, take, drop}
use lib.Seq.{sets, length-take-le}
use lib.Ieee.{Float}
use Rattle.math.specs.declared.vector.V3.{V3}
use Rattle.lists.specs.Loops.{All}
use Rattle.polygon.specs.Points.{spots}
use Rattle.polygon.specs.Ears.{Tri, triple, fan_from, fan, outline, turn, flat}
use Rattle.polygon.specs.Plane.{pairs, projection, flat2}
use Rattle.polygon.specs.Face.{face_tris, triangles}
use Rattle.polygon.specs.Fans.{is_fan}
use Rattle.polygon.specs.Edges.{Within, edge, named, tris, around}
use Rattle.polygon.proofs.Count.{length_outline, count_face, face_fan}
use Rattle.polygon.proofs.Corners.{face_within}
use Rattle.lists.proofs.Tabs.{tab_at}
use Rattle.polygon.proofs.Boundary.{face_boundary}
use Rattle.polygon.proofs.Lists.{fan_start, fan_write, fan_written}
use Rattle.polygon.proofs.Whole.{length_pairs, map_same}
use Rattle.polygon.proofs.Projection.{length_projection, length_spots, written}

-- ---- the fan of an outline

outline_at : (n j : ℕ) → j < n → get_or (outline n) j 0 ≡ j
unfolding outline
outline_at n j h = tab_at (λ (i : ℕ). i) n j 0 h

-- t triangles of it are written in `out`, and these are left
abbrev pub Rest : ℕ → List ℕ → ℕ → List ℕ
Rest n out t = sets out (t * 3) (flat (map (turn false) (fan_from (get_or (outline n) 0 0) (drop (t + 1) (outline n)))))

module _ (n : ℕ) (out : List ℕ) where
  pub outline_start : Rest n out 0 ≡ sets out 0 (flat (fan (outline n)))
  outline_start =
      ap (λ (ts : List Tri). sets out 0 (flat (map (turn false) ts))) (sym (fan_start (outline n))) ∙ ap (λ (ts : List Tri). sets out 0 (flat ts)) (map_same (fan (outline n)))

  pub outline_go : (out' : List ℕ) (t : ℕ) → t < n - 2 → out' ≡ sets out (t * 3) (flat (turn false (triple 0 (t + 1) (t + 2)) ∷ [])) → Rest n out' (t + 1) ≡ Rest n out t
  outline_go out' t h e =
      let l : length (outline n) ≡ n = length_outline n in
      let a : get_or (outline n) 0 0 ≡ 0 = outline_at n 0 (omega arith) in
      let b : get_or (outline n) (t + 1) 0 ≡ t + 1 = outline_at n (t + 1) (omega arith) in
      let d : get_or (outline n) (t + 2) 0 ≡ t + 2 = outline_at n (t + 2) (omega arith) in
      let q : triple 0 (t + 1) (t + 2) ≡ triple (get_or (outline n) 0 0) (get_or (outline n) (t + 1) 0) (get_or (outline n) (t + 2) 0) = λ i. triple (sym a i) (sym b i) (sym d i) in
      ap (λ (o : List ℕ). Rest n o (t + 1)) (e ∙ ap (λ (p : Tri). sets out (t * 3) (flat (turn false p ∷ []))) q)
      ∙ fan_write false out t (outline n) t (omega arith)

  pub outline_end : (t : ℕ) → n - 2 ≤ t → Rest n out t ≡ out
  outline_end t h = let l : length (outline n) ≡ n = length_outline n in fan_written false out t (outline n) t (omega arith)

-- ---- from the plane to the face

-- after `project`, `triangulate` writes the face's triangles
pub by_plane : (ccw convex : Bool) (points names : List ℕ) (normal : V3) (n : ℕ) (before after : List Float) → length names ≡ n → n * 2 ≤ length before
    → after ≡ sets before 0 (flat2 (projection ccw normal (spots points names)))
    → face_tris convex (pairs (take (n * 2) after)) ≡ triangles ccw convex (spots points names) normal
unfolding triangles
by_plane ccw convex points names normal n before after e h w =
    let ps = spots points names in
    ap (λ (l : List Float). face_tris convex (pairs (take (n * 2) l))) w
    ∙ ap (face_tris convex) (written (projection ccw normal ps) n before (length_projection ccw normal ps ∙ length_spots points names ∙ e) h)

-- of a fan the plane is not looked at
pub by_fan : (ccw convex : Bool) (points names : List ℕ) (normal : V3) (n : ℕ) (plane : List Float) → length names ≡ n → n * 2 ≤ length plane → is_fan convex n ≡ true
    → face_tris convex (pairs (take (n * 2) plane)) ≡ triangles ccw convex (spots points names) normal
unfolding triangles
by_fan ccw convex points names normal n plane e h c =
    let ps = spots points names in
    face_fan convex (pairs (take (n * 2) plane)) n (length_pairs (take (n * 2) plane) n (length-take-le (n * 2) plane h)) c
    ∙ sym (face_fan convex (projection ccw normal ps) n (length_projection ccw normal ps ∙ length_spots points names ∙ e) c)

-- ---- the laws, for any floats

module _ (ccw convex : Bool) (points : List V3) (normal : V3) where
  -- FORMAT 12.1: n - 2 triangles, and none below three corners
  pub triangles_count : length (triangles ccw convex points normal) ≡ length points - 2
  unfolding triangles
  triangles_count = count_face convex (projection ccw normal points) ∙ ap (λ (k : ℕ). k - 2) (length_projection ccw normal points)

  -- FORMAT 12.1: each names corners of the face
  pub triangles_within : All (Within (length points)) (triangles ccw convex points normal)
  unfolding triangles
  triangles_within =
      subst (λ (k : ℕ). All (Within k) (face_tris convex (projection ccw normal points))) (length_projection ccw normal points) (face_within convex (projection ccw normal points))

  -- the triangles' edges from u to v less those from v to u are as many as the outline's, where corner j is named f j, as by its point
  pub triangles_boundary : (f : ℕ → ℕ) (u v : ℕ)
      → tris (named f (edge u v)) (triangles ccw convex points normal) + around (named f (edge v u)) (outline (length points))
      ≡ tris (named f (edge v u)) (triangles ccw convex points normal) + around (named f (edge u v)) (outline (length points))
  unfolding triangles
  triangles_boundary f u v =
      subst
      (λ (k : ℕ). tris (named f (edge u v)) (face_tris convex (projection ccw normal points)) + around (named f (edge v u)) (outline k)
      ≡ tris (named f (edge v u)) (face_tris convex (projection ccw normal points)) + around (named f (edge u v)) (outline k))
      (length_projection ccw normal points) (face_boundary convex (projection ccw normal points) f u v)
