-- One face of the tables: how many indices it has, that it is kept, and what the functions leave. Then the room that is lent.
use mathlib.Core.Path.{◌≡◌, refl, sym, ap, ap₂, ◌∙◌}
use mathlib.Core.Bool.{Bool, true, false}
use mathlib.Core.List.{List}
use Prim.Native.Nat.{ℕ, suc, ◌+◌, ◌-◌, ◌*◌, ◌≤◌, ◌<◌}
use native.Mathlib.Omega.{arith}
use borrow.Author.Tests.{le-leb}
use lib.Ieee.{Float}
use lib.ListN.{length, take, drop}
use lib.Seq.{sets}
use Rattle.math.specs.declared.vector.V3.{V3}
use Rattle.lists.specs.Loops.{pick}
use Rattle.polygon.specs.Points.{spots}
use Rattle.polygon.specs.Facing.{newell}
use Rattle.polygon.specs.Plane.{handed, projection, flat2, pairs}
use Rattle.polygon.specs.Ears.{Tri, flat}
use Rattle.polygon.specs.Face.{face_tris, triangles}
use Rattle.polygon.specs.Fans.{is_fan}
use Rattle.polygon.proofs.Projection.{length_spots}
use Rattle.polygon.proofs.Triangles.{by_plane, by_fan, triangles_count}
use Rattle.tables.specs.declared.layout.Plan.{Plan}
use Rattle.tables.specs.Layout.{plan_of}
use Rattle.lists.specs.Parts.{seg, Kept, spliced}
use Rattle.tables.specs.Soups.{start_in, points_in, Sound}
use Rattle.lists.proofs.Keep.{kept_all, kept_seg, length_seg}
use Rattle.tables.proofs.Stays.{start_le, start_kept, points_kept}
use Rattle.lists.proofs.Lists.{no_elements}
use Rattle.lists.proofs.Splices.{sets_spliced, splice_start}
use Rattle.faces.specs.Naming.{threes, numbered}
use Rattle.faces.specs.Indices.{outline_in, facing_in, triangles_in, corners_made, one_face, plane_in, corners_floats, one_floats, Ready, Put}
use Rattle.faces.proofs.Threes.{length_numbered, in_place}
use Rattle.polygon.proofs.Whole.{length_flat}

module _ (w : List ℕ) (t : Plan) (ccw : Bool) (a n : ℕ) where
  -- what `put_plane` leaves
  pub plane_made : (P N : List ℕ) → P ≡ points_in w t → N ≡ seg w (t.corners + a) n → (s v : V3) → s ≡ newell (spots P N) → v ≡ handed ccw s
      → (fs fs' : List Float) → fs' ≡ sets fs 0 (flat2 (projection ccw v (spots P N)))
      → fs' ≡ sets fs 0 (plane_in w t ccw a n)
  unfolding plane_in facing_in outline_in
  plane_made P N x y s v es ev fs fs' e =
      let z : spots P N ≡ outline_in w t a n = ap₂ spots x y in
      let u : v ≡ facing_in w t ccw a n = ev ∙ ap (handed ccw) (es ∙ ap newell z) in
      e ∙ ap₂ (λ (m : V3) (ps : List V3). sets fs 0 (flat2 (projection ccw m ps))) u z

  module _ (convex : Bool) (h : t.corners + a + n ≤ length w) where
    pub length_triangles : length (triangles_in w t ccw convex a n) ≡ n - 2
    unfolding triangles_in outline_in
    length_triangles =
        triangles_count ccw convex (outline_in w t a n) (facing_in w t ccw a n)
        ∙ ap (λ (k : ℕ). k - 2) (length_spots (points_in w t) (seg w (t.corners + a) n) ∙ length_seg w (t.corners + a) n h)

    -- what `put_corners` leaves
    pub corners_put : (fs gs : List Float) (o o' : List ℕ) (at : ℕ) → n * 2 ≤ length fs → at + (n - 2) * 3 ≤ length o
        → gs ≡ corners_floats w t ccw convex a n fs
        → o' ≡ sets o at (flat (face_tris convex (pairs (take (n * 2) gs)))) → o' ≡ spliced o at (flat (triangles_in w t ccw convex a n))
    unfolding corners_floats plane_in triangles_in outline_in
    corners_put fs gs o o' at k room g e =
        e ∙ ap (λ (ts : List Tri). sets o at (flat ts)) (go (is_fan convex n) refl g)
        ∙ sets_spliced o at (flat (triangles_in w t ccw convex a n)) (omega (arith, length_flat (triangles_in w t ccw convex a n), length_triangles, room))
      where
        go : (b : Bool) → is_fan convex n ≡ b → gs ≡ pick b fs (sets fs 0 (plane_in w t ccw a n)) → face_tris convex (pairs (take (n * 2) gs)) ≡ triangles_in w t ccw convex a n
        go true q x =
            ap (λ (l : List Float). face_tris convex (pairs (take (n * 2) l))) x
            ∙ by_fan ccw convex (points_in w t) (seg w (t.corners + a) n) (facing_in w t ccw a n) n fs (length_seg w (t.corners + a) n h) k q
        go false q x = by_plane ccw convex (points_in w t) (seg w (t.corners + a) n) (facing_in w t ccw a n) n fs gs (length_seg w (t.corners + a) n h) k x

    pub length_corners : length (corners_made w t ccw convex a n) ≡ (n - 2) * 3
    unfolding corners_made
    length_corners = length_numbered ccw (seg w (t.named + a) n) (triangles_in w t ccw convex a n) ∙ ap (λ (k : ℕ). k * 3) length_triangles

-- fewer than three corners are a fan
floats_few : (w : List ℕ) (t : Plan) (ccw convex : Bool) (a n : ℕ) (f : List Float) → n < 3 → corners_floats w t ccw convex a n f ≡ f
unfolding corners_floats is_fan
floats_few w t ccw convex a n f h = rw (le-leb n 3 (omega arith))

module _ {w : List ℕ} {t : Plan} (S : Sound w t) (ccw convex : Bool) where
  pub corners_in : (a n : ℕ) → a + n ≤ t.count → t.corners + a + n ≤ length w
  corners_in a n h = let R = S.room in omega arith

  -- 3 (n - 2) indices for a face of n corners
  pub length_one : (g : ℕ) → g < t.faces → length (one_face w t ccw convex g) ≡ (start_in w t (suc g) - start_in w t g - 2) * 3
  unfolding one_face
  length_one g h =
      let r = S.rises g h in
      let l = start_le S (suc g) h in
      length_corners w t ccw (start_in w t g) (start_in w t (suc g) - start_in w t g) convex (corners_in (start_in w t g) (start_in w t (suc g) - start_in w t g) (omega arith))

  -- the two ends as the code reads them
  module _ (g a b : ℕ) (h : g < t.faces) (ea : a ≡ start_in w t g) (eb : b ≡ start_in w t (suc g)) where
    ends_in : (a ≤ b) × (b ≤ t.count)
    ends_in = (omega (arith, S.rises g h), omega (arith, start_le S (suc g) h))

    ends_are : {A : Type 0} (v : ℕ → ℕ → A) → v (start_in w t g) (start_in w t (suc g) - start_in w t g) ≡ v a (b - a)
    ends_are v = sym (ap₂ (λ (x y : ℕ). v x (y - x)) ea eb)

    one_is : one_face w t ccw convex g ≡ corners_made w t ccw convex a (b - a)
    unfolding one_face
    one_is = ends_are (corners_made w t ccw convex)

    floats_are : (f : List Float) → one_floats w t ccw convex g f ≡ corners_floats w t ccw convex a (b - a) f
    unfolding one_floats
    floats_are f = ends_are (λ (x n : ℕ). corners_floats w t ccw convex x n f)

    pub corners_here : t.corners + a + (b - a) ≤ length w
    corners_here = let q = ends_in in corners_in a (b - a) (omega (arith, q.0, q.1))

    length_here : length (one_face w t ccw convex g) ≡ (b - a - 2) * 3
    length_here = ap length one_is ∙ length_corners w t ccw a (b - a) convex corners_here

    -- fewer than three corners
    pub few_put : (o : List ℕ) (f : List Float) (at : ℕ) → b - a < 3 → Put t (one_face w t ccw convex g) (one_floats w t ccw convex g f) at at o o w w f
    few_put o f at few =
        let l : length (one_face w t ccw convex g) ≡ 0 = length_here ∙ omega arith in
        record {
          next = omega arith;
          made = splice_start o at ∙ ap (spliced o at) (sym (no_elements (one_face w t ccw convex g) l));
          kept = kept_all;
          floats = sym (floats_are f ∙ floats_few w t ccw convex a (b - a) f few);
        }

    -- three or more
    pub more_put : (w' o X Y : List ℕ) (f f' : List Float) (at r : ℕ) → at + (b - a - 2) * 3 ≤ length o → Kept t.places w w'
        → X ≡ spliced o at (flat (triangles_in w t ccw convex a (b - a)))
        → Y ≡ spliced X at (numbered ccw (seg w' (t.named + a) (b - a)) (threes (b - a - 2) (drop at X))) → f' ≡ corners_floats w t ccw convex a (b - a) f
        → r ≡ at + (b - a - 2) * 3 → Put t (one_face w t ccw convex g) (one_floats w t ccw convex g f) at r o Y w w' f'
    unfolding corners_made
    more_put w' o X Y f f' at r room K x y z er =
        let q = ends_in in
        let R = S.room in
        let l : length (one_face w t ccw convex g) ≡ (b - a - 2) * 3 = length_here in
        let k : t.named + a + (b - a) ≤ t.places = omega (arith, q.0, q.1) in
        let j : t.named + a + (b - a) ≤ length w = omega (arith, q.0, q.1) in
        let v : seg w' (t.named + a) (b - a) ≡ seg w (t.named + a) (b - a) = kept_seg K (t.named + a) (b - a) k j in
        record {
          next = er ∙ ap (λ (m : ℕ). at + m) (sym l);
          made =
              in_place ccw (seg w (t.named + a) (b - a)) o X Y (triangles_in w t ccw convex a (b - a)) at (b - a - 2) (length_triangles w t ccw a (b - a) convex corners_here)
              room x (y ∙ ap (λ (s : List ℕ). spliced X at (numbered ccw s (threes (b - a - 2) (drop at X)))) v) ∙ ap (spliced o at) (sym one_is);
          kept = K;
          floats = z ∙ sym (floats_are f);
        }

-- ---- a face is kept with the words below the places

module _ {w₀ w : List ℕ} {t : Plan} (K : Kept t.places w₀ w) (S : Sound w₀ t) (ccw convex : Bool) where
  outline_kept : (a n : ℕ) → a + n ≤ t.count → outline_in w t a n ≡ outline_in w₀ t a n
  unfolding outline_in
  outline_kept a n h =
      let R = S.room in
      ap₂ spots (points_kept K t (omega arith) S) (kept_seg K (t.corners + a) n (omega arith) (omega arith))

  corners_kept : (a n : ℕ) → a + n ≤ t.count → corners_made w t ccw convex a n ≡ corners_made w₀ t ccw convex a n
  unfolding corners_made triangles_in facing_in
  corners_kept a n h =
      let R = S.room in
      let p : outline_in w t a n ≡ outline_in w₀ t a n = outline_kept a n h in
      let v : seg w (t.named + a) n ≡ seg w₀ (t.named + a) n = kept_seg K (t.named + a) n (omega arith) (omega arith) in
      λ i. numbered ccw (v i) (triangles ccw convex (p i) (handed ccw (newell (p i))))

  floats_kept : (f : List Float) (a n : ℕ) → a + n ≤ t.count → corners_floats w t ccw convex a n f ≡ corners_floats w₀ t ccw convex a n f
  unfolding corners_floats plane_in facing_in
  floats_kept f a n h = ap (λ (ps : List V3). pick (is_fan convex n) f (sets f 0 (flat2 (projection ccw (handed ccw (newell ps)) ps)))) (outline_kept a n h)

  module _ (g : ℕ) (h : g < t.faces) where
    -- what is said of the corners of a face
    face_kept : {A : Type 0} (v v₀ : ℕ → ℕ → A) → ((a n : ℕ) → a + n ≤ t.count → v a n ≡ v₀ a n)
        → v (start_in w t g) (start_in w t (suc g) - start_in w t g) ≡ v₀ (start_in w₀ t g) (start_in w₀ t (suc g) - start_in w₀ t g)
    face_kept v v₀ same =
        let R = S.room in
        let r = S.rises g h in
        let l = start_le S (suc g) h in
        ap₂ (λ (x y : ℕ). v x (y - x)) (start_kept K t g (omega arith)) (start_kept K t (suc g) (omega arith))
        ∙ same (start_in w₀ t g) (start_in w₀ t (suc g) - start_in w₀ t g) (omega arith)

    pub one_kept : one_face w t ccw convex g ≡ one_face w₀ t ccw convex g
    unfolding one_face
    one_kept = face_kept (corners_made w t ccw convex) (corners_made w₀ t ccw convex) corners_kept

    pub one_floats_lem : (f : List Float) → one_floats w t ccw convex g f ≡ one_floats w₀ t ccw convex g f
    unfolding one_floats
    one_floats_lem f = face_kept (λ (a n : ℕ). corners_floats w t ccw convex a n f) (λ (a n : ℕ). corners_floats w₀ t ccw convex a n f) (floats_kept f)

-- FORMAT 4: the words and floats that are lent are enough
pub plan_ready : (spots count faces ring floats : ℕ) (w : List ℕ) → Sound w (plan_of spots count faces ring) → faces * 3 ≤ count
    → 8 * (count + spots) + 8 ≤ length w → 8 * (count + spots) + 8 ≤ floats → Ready w (plan_of spots count faces ring) floats
unfolding plan_of
plan_ready spots count faces ring floats w S f l m = record { sound = S; scratch = omega arith; plane = omega arith }
