-- The tables, written one after another: what was written stays.
use mathlib.Core.Path.{◌≡◌, refl, sym, ap, ap₂, ◌∙◌, subst}
use mathlib.Core.Logic.{⊎_elim}
use mathlib.Core.Bool.{Bool, cond}
use mathlib.Core.List.{List, [], ◌∷◌}
use Prim.Native.Nat.{ℕ, zero, suc, ◌+◌, ◌*◌, ◌-◌, ◌≤◌, ◌<◌}
use native.Mathlib.Nat.{add-zero, not-suc-le-zero}
use native.Mathlib.Omega.{arith}
use lib.Dec.{T, eqb}
use lib.ListN.{length, get_or, set}
use lib.Ieee.{Float, binary32, of_bits, to_bits, fits}
use lib.Ieee.Bits.{of_bits-to_bits}
use Rattle.math.specs.declared.vector.V3.{V3}
use Rattle.std.specs.Prelude.{Option}
use Rattle.std.specs.Prelude.{Some, None}
use Rattle.math.specs.Vector.{v3, unit_of}
use Rattle.block.specs.declared.crease.CreaseRule.TheVariants.{Own}
use Rattle.polygon.specs.Points.{spots}
use Rattle.polygon.specs.Facing.{newell}
use Rattle.polygon.specs.Plane.{handed}
use Rattle.mesh.specs.Soup.{points_of}
use Rattle.mesh.specs.Normals.{outline, facing}
use Rattle.tables.specs.declared.layout.Plan.{Plan}
use Rattle.lists.specs.Parts.{seg, spliced, Kept}
use Rattle.tables.specs.Soups.{gather_in, owner_in, start_in, points_in, face_in, frame_in, Sound}
use Rattle.lists.proofs.Keep.{kept_all, kept_set, kept_then, kept_at, set_hit}
use Rattle.tables.proofs.Stays.{start_le, gather_kept, owner_kept, start_kept, sound_kept, face_kept, frame_kept, names_in}
use Rattle.lists.proofs.Splices.{put_at, put_kept}
use Rattle.lists.proofs.Tabs.{length_tab, tab_same}
use Rattle.lists.proofs.Numbers.{last_or, le_or_lt}
use Rattle.normals.specs.Group.{gathers_in, Grouped}
use Rattle.normals.specs.Rows.{at3, unit_at, normal_in, unit_in, facing_in, OwnedTo, Rowed, Owned, Made}
use Rattle.normals.proofs.Counting.{grouped_by}

-- ---- rows that are kept

module _ {b : ℕ} {v w : List ℕ} (K : Kept b v w) where
  at3_kept : (a : ℕ) → a + 3 ≤ b → at3 w a ≡ at3 v a
  unfolding at3
  at3_kept a h = λ i. v3 (of_bits binary32 (kept_at K a (omega arith) i)) (of_bits binary32 (kept_at K (a + 1) (omega arith) i)) (of_bits binary32 (kept_at K (a + 2) (omega arith) i))

  pub unit_kept : (a : ℕ) → a + 4 ≤ b → unit_at w a ≡ unit_at v a
  unfolding unit_at
  unit_kept a h = λ i. cond (eqb (kept_at K a (omega arith) i) 0) None (Some (at3_kept (a + 1) (omega arith) i))

  module _ (t : Plan) where
    pub normal_kept : (g : ℕ) → t.rows + 7 * g + 3 ≤ b → normal_in w t g ≡ normal_in v t g
    unfolding normal_in
    normal_kept g h = at3_kept (t.rows + 7 * g) h

    pub unit_in_kept : (g : ℕ) → t.rows + 7 * g + 7 ≤ b → unit_in w t g ≡ unit_in v t g
    unfolding unit_in
    unit_in_kept g h = unit_kept (t.rows + 7 * g + 3) (omega arith)

    facing_kept : t.named ≤ b → Sound v t → (ccw : Bool) (g : ℕ) → g < t.faces → facing_in w t ccw g ≡ facing_in v t ccw g
    unfolding facing_in
    facing_kept h S ccw g k = ap₂ facing (frame_kept K t h S ccw Own) (face_kept K t h S g k)

-- the facing normal, from the points and those of the face
pub facing_made : {w : List ℕ} {t : Plan} → Sound w t → (ccw : Bool) (g a b : ℕ) → g < t.faces → a ≡ start_in w t g → b ≡ start_in w t (suc g)
    → (points names : List ℕ) → points ≡ points_in w t → names ≡ seg w (t.corners + a) (b - a)
    → (n r : V3) → n ≡ newell (spots points names) → r ≡ handed ccw n → r ≡ facing_in w t ccw g
unfolding facing_in facing outline frame_in
facing_made {w} {t} S ccw g a b h ea eb points names ep en n r e er =
    let q : names ≡ points_of (face_in w t g)
    = en ∙ ap₂ (λ (x y : ℕ). seg w (t.corners + x) (y - x)) ea eb ∙ sym (names_in S g h) in
    er ∙ ap (handed ccw) (e ∙ ap₂ (λ (x y : List ℕ). newell (spots x y)) ep q)

-- ---- one step more

rowed_step : {v w w' : List ℕ} {t : Plan} {ccw : Bool} (g : ℕ) (n : V3) → Rowed v w t ccw g → Kept (t.rows + 7 * g) w w'
    → at3 w' (t.rows + 7 * g) ≡ n → unit_at w' (t.rows + 7 * g + 3) ≡ unit_of n → n ≡ facing_in v t ccw g → Rowed v w' t ccw (g + 1)
unfolding normal_in unit_in
rowed_step {v} {w} {w'} {t} {ccw} g n R K en eu f = record {
  normal = λ h l. ⊎_elim
      (λ (e : h ≡ g). rw e (en ∙ f))
      (λ (e : h < g). normal_kept K t h (omega arith) ∙ R.normal h e)
      (last_or h g l);
  unit = λ h l. ⊎_elim
      (λ (e : h ≡ g). rw e (eu ∙ ap unit_of (sym en)))
      (λ (e : h < g). unit_in_kept K t h (omega arith) ∙ R.unit h e ∙ ap unit_of (sym (normal_kept K t h (omega arith))))
      (last_or h g l);
}

-- ---- a turn of the loops

-- the next row, of a face whose facing normal is n
abbrev pub Row : Plan → List ℕ → List ℕ → ℕ → V3 → Type 0
Row t w w' g n = Kept (t.rows + 7 * g) w w' × (at3 w' (t.rows + 7 * g) ≡ n) × (unit_at w' (t.rows + 7 * g + 3) ≡ unit_of n)

module _ {v : List ℕ} {t : Plan} (ccw : Bool) (S : Sound v t) where
  rows_more : {w w' : List ℕ} (g : ℕ) (n : V3) → Kept t.rows v w → Rowed v w t ccw g → g < t.faces → n ≡ facing_in v t ccw g → Row t w w' g n
      → Kept t.rows v w' × Sound w' t × Rowed v w' t ccw (g + 1)
  rows_more {w} {w'} g n K P k en (L, e3, eu) =
      let R = S.room in
      let M = kept_then K L (omega arith) in
      (M, sound_kept M t (omega arith) S, rowed_step g n P L e3 eu en)

  here : {w : List ℕ} (g : ℕ) (n : V3) → Kept t.rows v w → g < t.faces → n ≡ facing_in w t ccw g → n ≡ facing_in v t ccw g
  here {w} g n K k en = let R = S.room in en ∙ facing_kept K t (omega arith) S ccw g k

  pub rows_next : {w w' : List ℕ} (g : ℕ) (n : V3) → Kept t.rows v w → Rowed v w t ccw g → g < t.faces → n ≡ facing_in w t ccw g → Row t w w' g n
      → Kept t.rows v w' × Sound w' t × Rowed v w' t ccw (g + 1)
  rows_next g n K P k en L = rows_more g n K P k (here g n K k en) L

  pub rows_four : {w w₁ w₂ w₃ w₄ : List ℕ} (g : ℕ) (a b c d : V3) → Kept t.rows v w → Rowed v w t ccw g → g + 3 < t.faces
      → a ≡ facing_in w t ccw g → b ≡ facing_in w t ccw (g + 1) → c ≡ facing_in w t ccw (g + 2) → d ≡ facing_in w t ccw (g + 3)
      → Row t w w₁ g a → Row t w₁ w₂ (g + 1) b → Row t w₂ w₃ (g + 2) c → Row t w₃ w₄ (g + 3) d
      → Kept t.rows v w₄ × Sound w₄ t × Rowed v w₄ t ccw (g + 4)
  rows_four {w} {w₁} {w₂} {w₃} {w₄} g a b c d K P k ea eb ec ed L₁ L₂ L₃ L₄ =
      let r₁ = rows_more g a K P (omega arith) (here g a K (omega arith) ea) L₁ in
      let r₂ = rows_more (g + 1) b r₁.0 r₁.2 (omega arith) (here (g + 1) b K (omega arith) eb) L₂ in
      let q₂ : g + 1 + 1 ≡ g + 2 = omega arith in
      let r₃ = rows_more (g + 2) c r₂.0 (subst (λ (n : ℕ). Rowed v w₂ t ccw n) q₂ r₂.2) (omega arith) (here (g + 2) c K (omega arith) ec) L₃ in
      let q₃ : g + 2 + 1 ≡ g + 3 = omega arith in
      let r₄ = rows_more (g + 3) d r₃.0 (subst (λ (n : ℕ). Rowed v w₃ t ccw n) q₃ r₃.2) (omega arith) (here (g + 3) d K (omega arith) ed) L₄ in
      let q₄ : g + 3 + 1 ≡ g + 4 = omega arith in
      (r₄.0, r₄.1, subst (λ (n : ℕ). Rowed v w₄ t ccw n) q₄ r₄.2)

-- the tables below the rows are as they were
pub row_sound : {w w' : List ℕ} {t : Plan} → Sound w t → (g : ℕ) (n : V3) → g < t.faces → Row t w w' g n → Sound w' t
row_sound {w} {w'} {t} S g n k (L, e3, eu) = let R = S.room in sound_kept L t (omega arith) S

-- ---- three words stored

pub stored : (w : List ℕ) {w' : List ℕ} (a x y z : ℕ) (v : V3) → a + 3 ≤ length w → T (fits binary32 v.x) → T (fits binary32 v.y) → T (fits binary32 v.z)
    → x ≡ to_bits binary32 v.x → y ≡ to_bits binary32 v.y → z ≡ to_bits binary32 v.z
    → w' ≡ spliced w a (x ∷ y ∷ z ∷ []) → Kept a w w' × (at3 w' a ≡ v)
unfolding at3
stored w {w'} a x y z v h fx fy fz ex ey ez q =
    let at : (j : ℕ) → j < 3 → get_or w' (a + j) 0 ≡ get_or (x ∷ y ∷ z ∷ []) j 0 = put_at w a (x ∷ y ∷ z ∷ []) q refl h 0 in
    let px : get_or w' a 0 ≡ x = ap (λ (k : ℕ). get_or w' k 0) (sym (add-zero a)) ∙ at 0 (omega arith) in
    let back : (n : ℕ) (u : Float) → n ≡ to_bits binary32 u → T (fits binary32 u) → of_bits binary32 n ≡ u = λ n u e f. ap (of_bits binary32) e ∙ of_bits-to_bits binary32 u f in (
      put_kept w a (x ∷ y ∷ z ∷ []) q refl h,
      λ i. v3 ((ap (of_bits binary32) px ∙ back x v.x ex fx) i) ((ap (of_bits binary32) (at 1 (omega arith)) ∙ back y v.y ey fy) i) ((ap (of_bits binary32) (at 2 (omega arith)) ∙ back z v.z ez fz) i),
    )

-- ---- a unit vector, and a row

module _ (w : List ℕ) (a : ℕ) (k : (Option V3)) (h : a + 4 ≤ length w) where
  pub unit_some : (w' : List ℕ) (u : V3) → Kept (a + 1) (set w a 1) w' → at3 w' (a + 1) ≡ u → k ≡ Some u → Kept a w w' × (unit_at w' a ≡ k)
  unfolding unit_at
  unit_some w' u L f g =
      let M : Kept a w (set w a 1) = kept_set a 1 kept_all (omega arith) in
      let one : get_or w' a 0 ≡ 1 = kept_at L a (omega arith) ∙ set_hit w a 1 a (omega arith) refl in
      (kept_then M L (omega arith), rw (one, f) (sym g))

  pub unit_none : k ≡ None → Kept a w (set w a 0) × (unit_at (set w a 0) a ≡ k)
  unfolding unit_at
  unit_none g =
      let nul : get_or (set w a 0) a 0 ≡ 0 = set_hit w a 0 a (omega arith) refl in
      (kept_set a 0 kept_all (omega arith), rw nul (sym g))

pub row_made : (w w₁ w₂ : List ℕ) (a : ℕ) (v : V3) (k : (Option V3)) → Kept a w w₁ → at3 w₁ a ≡ v → k ≡ unit_of v → Kept (a + 3) w₁ w₂ → unit_at w₂ (a + 3) ≡ k
    → Kept a w w₂ × (at3 w₂ a ≡ v) × (unit_at w₂ (a + 3) ≡ unit_of v)
row_made w w₁ w₂ a v k K e ek L f = (kept_then K L (omega arith), at3_kept L a (omega arith) ∙ e, f ∙ ek)

-- ---- all tables

-- every corner is in a face: the owners are faces
below : {w : List ℕ} {t : Plan} → Sound w t → Owned w t → (n c : ℕ) → n ≤ t.faces → c < start_in w t n → owner_in w t c < t.faces
below {w} {t} S O zero c h l = absurd (not-suc-le-zero (rw S.first at l))
below {w} {t} S O (suc n) c h l =
    ⊎_elim (λ (b : start_in w t n ≤ c). rw (O.at n c h b l) h) (λ (b : c < start_in w t n). below S O n c (omega arith) b) (le_or_lt (start_in w t n) c)

pub made : {v w x y : List ℕ} {t : Plan} {ccw : Bool} → Sound v t → Kept t.owners v w → OwnedTo v w t t.faces
    → Kept t.rows w x → Rowed w x t ccw t.faces → Kept t.heads x y → Grouped (gathers_in x t) (owner_in x t) y t.heads t.spots t.nexts → Made v y t ccw
unfolding gathers_in
made {v} {w} {x} {y} {t} {ccw} S K O L P M C =
    let R = S.room in
    let LM = kept_then L M (omega arith) in
    let KLM = kept_then K LM (omega arith) in
    let S' = sound_kept KLM t (omega arith) S in
    let len = KLM.len in
    let lx = M.len in
    let own : Owned y t = record {
      at = λ g c k lo hi.
          let e = start_kept KLM t g (omega arith) in
          let f = start_kept KLM t (suc g) (omega arith) in
          let m = start_le S (suc g) k in
          owner_kept LM t c (omega arith) ∙ O.at g c k (omega arith) (omega arith);
    } in
    record {
      kept = KLM;
      sound = S';
      owned = own;
      ready = record {
        room = S'.room;
        gathers = S'.gathers;
        grouped =
            let n = length_tab (gather_in x t) t.count 0 in
            rw (tab_same (gather_in y t) (gather_in x t) t.count (λ c h. gather_kept M t c (omega arith))) (grouped_by (λ c k. sym (owner_kept M t c (omega arith))) C);
        owned = λ c k. below S' own t.faces c (omega arith) (rw S'.last k);
        units = λ g k. unit_in_kept M t g (omega arith) ∙ P.unit g k ∙ ap unit_of (sym (normal_kept M t g (omega arith)));
      };
      normals = λ g k. normal_kept M t g (omega arith) ∙ P.normal g k ∙ facing_kept K t (omega arith) S ccw g k;
    }

pub after_owners : {v w : List ℕ} {t : Plan} → Sound v t → Kept t.owners v w → Sound w t
after_owners S K = sound_kept K _ (omega arith) S

pub after_rows : {v w : List ℕ} {t : Plan} → Sound v t → Kept t.rows v w → Sound w t
after_rows S K = let R = S.room in sound_kept K _ (omega arith) S
