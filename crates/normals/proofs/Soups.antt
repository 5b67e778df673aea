-- What the tables say of the corners is what the mesh's definition says of the soup that they hold.
use mathlib.Core.Path.{◌≡◌, refl, sym, ap, ◌∙◌}
use mathlib.Core.Bool.{Bool, true, false, cond}
use mathlib.Core.List.{List, [], ◌∷◌, ◌++◌, map}
use Prim.Native.Nat.{ℕ, zero, suc, ◌+◌, ◌-◌, ◌≤◌, ◌<◌}
use native.Mathlib.Nat.{add-zero, add-suc, suc-add}
use native.Mathlib.Omega.{arith}
use lib.Dec.{eqb}
use lib.ListN.{length, drop, drop_of_length-le}
use lib.Seq.{drop-cons}
use Rattle.math.specs.declared.vector.V3.{V3}
use Rattle.math.specs.Vector.{y_axis, unit_of}
use Rattle.block.specs.declared.crease.CreaseRule.{CreaseRule}
use Rattle.lists.specs.Loops.{tab}
use Rattle.lists.proofs.Tabs.{length_tab, tab_at, tab_shift, tab_add, map_tab}
use Rattle.mesh.specs.Soup.{Corner, Frame}
use Rattle.mesh.specs.Normals.{outline, facing, Hit, hits, hits_of, incident, crease_sum, or_else, generated}
use Rattle.tables.specs.declared.layout.Plan.{Plan}
use Rattle.tables.specs.Layout.{Room}
use Rattle.tables.specs.Soups.{gather_in, owner_in, start_in, corner_in, face_in, soup_in, frame_in, Sound}
use Rattle.tables.proofs.Stays.{start_le, face_kept, soup_kept}
use Rattle.tables.proofs.Joins.{join_soup}
use Rattle.lists.proofs.Lists.{cond_map}
use Rattle.lists.specs.Counts.{uses, uses_from}
use Rattle.normals.specs.Group.{gathers_in}
use Rattle.normals.specs.Rows.{normal_in, facing_in, hit_in, hits_from, hits_at, Owned, Made}
use Rattle.normals.specs.Written.{normal_at, corner_normal_in, face_normals, normals_of}

abbrev hit : ℕ → V3 → Hit
hit g n = record { face = g; normal = n }

module _ (w : List ℕ) (t : Plan) (room : Room (length w) t) where
  hits_here : (p a : ℕ) → a < t.count → hits_from w t p a ≡ cond (eqb (gather_in w t a) p) (hit_in w t a ∷ hits_from w t p (suc a)) (hits_from w t p (suc a))
  unfolding hits_from uses_from uses gathers_in
  hits_here p a b =
      let G = gathers_in w t in
      let U = uses p (suc a) (drop (suc a) G) in
      let l = length_tab (gather_in w t) t.count 0 in
      ap (λ (x : List ℕ). map (hit_in w t) (uses p a x)) (drop-cons G a 0 (omega arith))
      ∙ ap (λ (x : ℕ). map (hit_in w t) (cond (eqb x p) (a ∷ U) U)) (tab_at (gather_in w t) t.count a 0 b)
      ∙ cond_map (hit_in w t) (eqb (gather_in w t a) p) a U

  -- n corners from a that are all of one face, and the corners after them
  hits_run : (p : ℕ) (h : Hit) (n a : ℕ) → a + n ≤ t.count → ((j : ℕ) → j < n → hit_in w t (a + j) ≡ h)
      → hits p h (tab (corner_in w t) n a) ++ hits_from w t p (a + n) ≡ hits_from w t p a
  unfolding hits tab corner_in
  hits_run p h zero a b e = ap (hits_from w t p) (add-zero a)
  hits_run p h (suc n) a b e =
      let s : a + suc n ≡ suc a + n = omega arith in
      let i : hit_in w t a ≡ h = sym (ap (hit_in w t) (add-zero a)) ∙ e 0 (omega arith) in
      let later = hits_run p h n (suc a) (omega arith) (λ j k. ap (hit_in w t) (suc-add a j ∙ sym (add-suc a j)) ∙ e (suc j) (omega arith)) in
      rw s (one (eqb (gather_in w t a) p) i later ∙ sym (hits_here p a (omega arith)))
    where
      one : (c : Bool) → hit_in w t a ≡ h → hits p h (tab (corner_in w t) n (suc a)) ++ hits_from w t p (suc a + n) ≡ hits_from w t p (suc a)
          → cond c (h ∷ hits p h (tab (corner_in w t) n (suc a))) (hits p h (tab (corner_in w t) n (suc a))) ++ hits_from w t p (suc a + n)
          ≡ cond c (hit_in w t a ∷ hits_from w t p (suc a)) (hits_from w t p (suc a))
      one true i q = λ z. sym i z ∷ q z
      one false i q = q

  hits_end : (p : ℕ) → hits_from w t p t.count ≡ []
  unfolding hits_from uses_from uses gathers_in
  hits_end p =
      let l = length_tab (gather_in w t) t.count 0 in
      ap (λ (x : List ℕ). map (hit_in w t) (uses p t.count x)) (drop_of_length-le (gathers_in w t) {i = t.count} (omega arith))

-- the rows hold the facing normals of F
module _ {w : List ℕ} {t : Plan} (S : Sound w t) (O : Owned w t) (F : Frame) (E : (g : ℕ) → g < t.faces → normal_in w t g ≡ facing F (face_in w t g)) where
  hits_incident : (p : ℕ) → hits_at w t p ≡ incident F (soup_in w t) p
  unfolding incident hit_in hits_of face_in
  hits_incident p = sym (join_soup S (hits_of F p) (hits_from w t p) (hits_end w t S.room p) (λ n h.
      let a = start_in w t n in
      let b = start_in w t (suc n) in
      let r = S.rises n h in
      let m = start_le S (suc n) h in
      let d : a + (b - a) ≡ b = omega arith in
      let H = hit n (facing F (face_in w t n)) in
      let same : (j : ℕ) → j < b - a → hit_in w t (a + j) ≡ H = λ j k.
      ap (λ (o : ℕ). hit o (normal_in w t o)) (O.at n (a + j) h (omega arith) (omega arith)) ∙ ap (hit n) (E n h) in
      rw d at (hits_run w t S.room p H (b - a) a (omega arith) same)))

  normal_generated : (g p : ℕ) → g < t.faces → normal_at w t F.crease g p ≡ generated F (soup_in w t) g (face_in w t g) p
  unfolding normal_at generated
  normal_generated g p h = λ z. or_else (unit_of (crease_sum F.crease g (E g h z) (hits_incident p z))) (or_else (unit_of (E g h z)) y_axis)

  corners_all : tab (corner_normal_in w t F.crease) t.count 0 ≡ normals_of F (soup_in w t)
  unfolding normals_of face_normals face_in corner_in corner_normal_in tab
  corners_all =
      let C = corner_normal_in w t F.crease in
      let whole : t.count ≡ t.count - 0 = omega arith in
      ap (λ (k : ℕ). tab C k 0) whole
      ∙ sym (join_soup S (face_normals F (soup_in w t)) (λ (c : ℕ). tab C (t.count - c) c) (none C) (λ n h.
      let a = start_in w t n in
      let b = start_in w t (suc n) in
      let r = S.rises n h in
      let m = start_le S (suc n) h in
      let d : a + (b - a) ≡ b = omega arith in
      let k : b - a + (t.count - b) ≡ t.count - a = omega arith in
      let N : ℕ → V3 = λ (c : ℕ). generated F (soup_in w t) n (face_in w t n) (gather_in w t c) in
      let same : (j : ℕ) → j < b - a → N (a + j) ≡ C (a + j) = λ j l. sym (ap (λ (o : ℕ). normal_at w t F.crease o (gather_in w t (a + j))) (O.at n (a + j) h (omega arith) (omega arith))
      ∙ normal_generated n (gather_in w t (a + j)) h) in
      let f : face_normals F (soup_in w t) n (face_in w t n) ≡ tab C (b - a) a
      = map_tab (corner_in w t) (λ (c : Corner). generated F (soup_in w t) n (face_in w t n) c.gather) (b - a) a ∙ tab_shift N C (b - a) a a same in
      ap (λ (l : List V3). l ++ tab C (t.count - b) b) f
      ∙ ap (λ (x : ℕ). tab C (b - a) a ++ tab C (t.count - b) x) (sym d) ∙ sym (tab_add C (b - a) (t.count - b) a) ∙ ap (λ (x : ℕ). tab C x a) k))
    where
      none : (f : ℕ → V3) → tab f (t.count - t.count) t.count ≡ []
      none f = let z : t.count - t.count ≡ 0 = omega arith in rw z

-- the facing normals do not depend on the crease rule
facing_rule : (w : List ℕ) (t : Plan) (ccw : Bool) (rule : CreaseRule) (g : ℕ) → facing_in w t ccw g ≡ facing (frame_in w t ccw rule) (face_in w t g)
unfolding facing_in facing outline frame_in
facing_rule w t ccw rule g = refl

-- by the tables that were made from the words v
pub generated_all : {v w : List ℕ} {t : Plan} {ccw : Bool} → Sound v t → Made v w t ccw → (rule : CreaseRule)
    → tab (corner_normal_in w t rule) t.count 0 ≡ normals_of (frame_in v t ccw rule) (soup_in v t)
unfolding frame_in
generated_all {v} {w} {t} {ccw} S M rule =
    let F = frame_in v t ccw rule in
    let E : (g : ℕ) → g < t.faces → normal_in w t g ≡ facing F (face_in w t g)
    = λ g h. M.normals g h ∙ facing_rule v t ccw rule g ∙ ap (facing F) (sym (face_kept M.kept t (omega arith) S g h)) in
    corners_all M.sound M.owned F E ∙ ap (normals_of F) (soup_kept M.kept t (omega arith) S)
