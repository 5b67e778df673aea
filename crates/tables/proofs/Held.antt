-- Tables that hold a soup: face by face and corner by corner, both ways; and that they still hold it when words above them change.
use mathlib.Core.Path.{◌≡◌, sym, ap, ap₂, ◌∙◌}
use mathlib.Core.List.{List, [], map}
use Prim.Native.Nat.{ℕ, zero, suc, ◌+◌, ◌-◌, ◌≤◌, ◌<◌}
use native.Mathlib.Nat.{zero-add}
use native.Mathlib.Omega.{arith}
use lib.ListN.{length, get_or, take, length-map}
use lib.Seq.{ext_get_or}
use Rattle.lists.specs.Lists.{total}
use Rattle.mesh.specs.Soup.{Corner, no_corner, Face, dense, Frame}
use Rattle.lists.proofs.Lists.{get_or_map_lt}
use Rattle.lists.proofs.Totals.{total_suc}
use Rattle.lists.specs.Loops.{tab}
use Rattle.lists.proofs.Tabs.{length_tab, get_or_tab}
use Rattle.tables.specs.declared.layout.Plan.{Plan}
use Rattle.lists.specs.Parts.{Kept}
use Rattle.tables.specs.Soups.{point_in, gather_in, start_in, points_in, plain, bare, corner_in, face_in, soup_in, Sound, Holds}
use Rattle.tables.proofs.Stays.{sound_kept, points_kept, soup_kept}

-- what corner c of the tables has of a corner of the soup
pub record Is (w : List ℕ) (t : Plan) (c : ℕ) (q : Corner) : Type 0 where
  pub point : point_in w t c ≡ q.point
  pub gather : gather_in w t c ≡ q.gather

-- corner by corner, to the whole
module _ {w : List ℕ} {t : Plan} (S : Sound w t) (fs : List Face) (count : length fs ≡ t.faces)
    (long : (j : ℕ) → j < t.faces → start_in w t (suc j) ≡ start_in w t j + length (get_or fs j []))
    (are : (j i : ℕ) → j < t.faces → i < length (get_or fs j []) → Is w t (start_in w t j + i) (get_or (get_or fs j []) i no_corner)) where
  same_face : (j : ℕ) → j < t.faces → map bare (get_or fs j []) ≡ face_in w t j
  unfolding face_in corner_in
  same_face j h =
      let f = get_or fs j [] in
      let a = start_in w t j in
      let n = start_in w t (suc j) - a in
      let l : length f ≡ n = let q = long j h in omega arith in
      ext_get_or no_corner (map bare f) (tab (corner_in w t) n a) (length-map f bare ∙ l ∙ sym (length_tab (corner_in w t) n a)) (λ i b.
      let i_lt : i < length f = let q = length-map f bare in omega arith in
      let q = are j i h i_lt in
      get_or_map_lt bare f i no_corner no_corner i_lt ∙ sym (ap₂ plain q.point q.gather) ∙ sym (get_or_tab (corner_in w t) n a i no_corner (omega arith)))

  pub holds_of : (F : Frame) → points_in w t ≡ F.points → dense fs ≡ fs → Holds w t F fs
  unfolding soup_in
  holds_of F p k = record {
    sound = S;
    points = p;
    full = k;
    faces = ext_get_or [] (map (map bare) fs) (tab (face_in w t) t.faces 0) (length-map fs (map bare) ∙ count ∙ sym (length_tab (face_in w t) t.faces 0)) (λ j b.
        let j-lt : j < t.faces = let q = length-map fs (map bare) in omega arith in
        get_or_map_lt (map bare) fs j [] [] (omega arith) ∙ same_face j j-lt
        ∙ sym (get_or_tab (face_in w t) t.faces 0 j [] j-lt ∙ ap (face_in w t) (zero-add j)));
  }

-- and back
module _ {w : List ℕ} {t : Plan} {F : Frame} {fs : List Face} (H : Holds w t F fs) where
  pub faces_held : length fs ≡ t.faces
  unfolding soup_in
  faces_held = sym (length-map fs (map bare)) ∙ ap length H.faces ∙ length_tab (face_in w t) t.faces 0

  pub face_held : (j : ℕ) → j < t.faces → map bare (get_or fs j []) ≡ face_in w t j
  unfolding soup_in
  face_held j h =
      let l = faces_held in
      sym (get_or_map_lt (map bare) fs j [] [] (omega arith)) ∙ ap (λ (s : List Face). get_or s j []) H.faces
      ∙ get_or_tab (face_in w t) t.faces 0 j [] h ∙ ap (face_in w t) (zero-add j)

  pub start_held : (j : ℕ) → j < t.faces → start_in w t (suc j) ≡ start_in w t j + length (get_or fs j [])
  unfolding face_in
  start_held j h =
      let f = get_or fs j [] in
      let r = H.sound.rises j h in
      let l : length f ≡ start_in w t (suc j) - start_in w t j
      = sym (length-map f bare) ∙ ap length (face_held j h) ∙ length_tab (corner_in w t) (start_in w t (suc j) - start_in w t j) (start_in w t j) in
      omega arith

  -- the corners of the faces before face j
  pub starts_held : (j : ℕ) → j ≤ t.faces → total length (take j fs) ≡ start_in w t j
  unfolding total
  starts_held zero h = sym H.sound.first
  starts_held (suc j) h =
      let l = faces_held in
      let r = starts_held j (omega arith) in
      let s = start_held j h in
      total_suc fs j (omega arith) ∙ omega arith

pub holds_kept : {b : ℕ} {v w : List ℕ} {t : Plan} {F : Frame} {fs : List Face} → Kept b v w → t.named ≤ b → Holds v t F fs → Holds w t F fs
holds_kept {b} {v} {w} {t} K h H = record {
  sound = sound_kept K t h H.sound;
  points = points_kept K t h H.sound ∙ H.points;
  full = H.full;
  faces = H.faces ∙ sym (soup_kept K t h H.sound);
}
