-- Reads below a place are those of the words before; and what the first corners of faces say.
use mathlib.Core.Path.{◌≡◌, sym, ap, ap₂, ◌∙◌}
use mathlib.Core.Bool.{Bool, true, false}
use mathlib.Core.List.{List}
use Prim.Native.Nat.{ℕ, zero, suc, ◌+◌, ◌*◌, ◌-◌, ◌≤◌, ◌<◌}
use native.Mathlib.Nat.{add-zero, add-suc}
use native.Mathlib.Numerals.{add-one}
use native.Mathlib.Omega.{arith}
use Rattle.block.specs.declared.crease.CreaseRule.{CreaseRule}
use Rattle.lists.specs.Loops.{tab}
use Rattle.lists.proofs.Tabs.{tab_shift, tab_same, map_tab, seg_tab}
use Rattle.mesh.specs.Soup.{Corner, gathered, points_of}
use Rattle.tables.specs.declared.layout.Plan.{Plan}
use Rattle.tables.specs.declared.reading.Stretch.{Stretch}
use Rattle.lists.specs.Parts.{seg, Kept}
use Rattle.tables.specs.Soups.{point_in, gather_in, owner_in, start_in, number_in, place_in, points_in, plain, corner_in, face_in, soup_in, frame_in, Sound, Ends}
use Rattle.lists.proofs.Keep.{kept_at, kept_seg}

-- ---- first corners

pub rise : {w : List ℕ} {t : Plan} → Sound w t → (g k : ℕ) → g + k ≤ t.faces → start_in w t g ≤ start_in w t (g + k)
rise {w} {t} S g zero h = rw add-zero (omega arith)
rise {w} {t} S g (suc k) h = rw add-suc (omega (arith, rise S g k (omega arith), S.rises (g + k) (omega arith)))

pub start_le : {w : List ℕ} {t : Plan} → Sound w t → (g : ℕ) → g ≤ t.faces → start_in w t g ≤ t.count
start_le {w} {t} S g h =
    let e : g + (t.faces - g) ≡ t.faces = omega arith in
    let r = rw e at (rise S g (t.faces - g) (omega arith)) in
    omega (arith, S.last)

-- the two ends of a face, as the code reads them
pub ends_of : {w : List ℕ} {t : Plan} → Sound w t → (g : ℕ) (r : Stretch) → g < t.faces → r.from.0 ≡ start_in w t g → r.to.0 ≡ start_in w t (g + 1) → Ends w t g r
ends_of {w} {t} S g r h ea eb =
    let f : r.to.0 ≡ start_in w t (suc g) = eb ∙ ap (start_in w t) (add-one g) in
    record { from = ea; to = f; order = omega (arith, S.rises g h); within = omega (arith, start_le S (suc g) h) }

-- ---- reads that are kept

module _ {b : ℕ} {v w : List ℕ} (K : Kept b v w) (t : Plan) where
  pub point_kept : (c : ℕ) → t.corners + c < b → point_in w t c ≡ point_in v t c
  unfolding point_in
  point_kept c h = kept_at K (t.corners + c) h

  pub gather_kept : (c : ℕ) → t.corners + c < b → gather_in w t c ≡ gather_in v t c
  unfolding gather_in
  gather_kept c h = ap (gathered t.ring) (point_kept c h)

  pub owner_kept : (c : ℕ) → t.owners + c < b → owner_in w t c ≡ owner_in v t c
  unfolding owner_in
  owner_kept c h = kept_at K (t.owners + c) h

  pub start_kept : (g : ℕ) → t.starts + g < b → start_in w t g ≡ start_in v t g
  unfolding start_in
  start_kept g h = kept_at K (t.starts + g) h

  pub number_kept : (g : ℕ) → t.numbers + g < b → number_in w t g ≡ number_in v t g
  unfolding number_in
  number_kept g h = kept_at K (t.numbers + g) h

  pub place_kept : (c : ℕ) → t.places + c < b → place_in w t c ≡ place_in v t c
  unfolding place_in
  place_kept c h = kept_at K (t.places + c) h

  pub sound_kept : t.named ≤ b → Sound v t → Sound w t
  sound_kept h S =
      let R = S.room in
      let l = K.len in
      record {
        room = rw l R;
        points = λ c k. rw (point_kept c (omega arith)) (S.points c k);
        gathers = λ c k. rw (gather_kept c (omega arith)) (S.gathers c k);
        first = start_kept 0 (omega arith) ∙ S.first;
        rises = λ g k. rw (start_kept g (omega arith), start_kept (suc g) (omega arith)) (S.rises g k);
        last = start_kept t.faces (omega arith) ∙ S.last;
      }

  module _ (h : t.named ≤ b) (S : Sound v t) where
    pub points_kept : points_in w t ≡ points_in v t
    unfolding points_in
    points_kept = let R = S.room in kept_seg K t.points (3 * t.spots) (omega arith) (omega arith)

    pub corner_kept : (c : ℕ) → c < t.count → corner_in w t c ≡ corner_in v t c
    unfolding corner_in
    corner_kept c k = let R = S.room in ap₂ plain (point_kept c (omega arith)) (gather_kept c (omega arith))

    pub face_kept : (g : ℕ) → g < t.faces → face_in w t g ≡ face_in v t g
    unfolding face_in
    face_kept g k =
        let R = S.room in
        let m = start_le S (suc g) k in
        let r = S.rises g k in
        ap₂ (λ (x y : ℕ). tab (corner_in w t) (y - x) x) (start_kept g (omega arith)) (start_kept (suc g) (omega arith))
        ∙ tab_shift (corner_in w t) (corner_in v t) (start_in v t (suc g) - start_in v t g) (start_in v t g) (start_in v t g) (λ j l. corner_kept (start_in v t g + j) (omega arith))

    pub soup_kept : soup_in w t ≡ soup_in v t
    unfolding soup_in
    soup_kept = tab_same (face_in w t) (face_in v t) t.faces face_kept

    pub frame_kept : (ccw : Bool) (rule : CreaseRule) → frame_in w t ccw rule ≡ frame_in v t ccw rule
    unfolding frame_in
    frame_kept ccw rule = ap (λ (l : List ℕ). record { points = l; ccw = ccw; convex = true; supplied = false; crease = rule }) points_kept

-- the points of a face's corners are a part of the words
pub names_in : {w : List ℕ} {t : Plan} → Sound w t → (g : ℕ) → g < t.faces
    → points_of (face_in w t g) ≡ seg w (t.corners + start_in w t g) (start_in w t (suc g) - start_in w t g)
unfolding face_in corner_in point_in
names_in {w} {t} S g h =
    let R = S.room in
    let m = start_le S (suc g) h in
    let r = S.rises g h in
    map_tab (corner_in w t) (λ (c : Corner). c.point) (start_in w t (suc g) - start_in w t g) (start_in w t g)
    ∙ sym (seg_tab w t.corners (start_in w t (suc g) - start_in w t g) (start_in w t g) (omega arith))
