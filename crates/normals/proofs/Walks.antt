-- A loop over the faces of a number meets those that are gathered under it, in order.
use mathlib.Core.Path.{◌≡◌, refl, sym, ap, ◌∙◌}
use mathlib.Core.List.{List, [], ◌∷◌, map}
use Prim.Native.Nat.{ℕ, suc, ◌+◌, ◌-◌, ◌≤◌, ◌<◌}
use native.Mathlib.Numerals.{add-one}
use native.Mathlib.Omega.{arith}
use lib.ListN.{length, get_or, take, drop, length-drop, drop_of_length-le}
use lib.Seq.{take_all, drop-drop, length-take-le}
use lib.Ieee.{Float}
use Rattle.math.specs.declared.vector.V3.{V3}
use Rattle.std.specs.Prelude.{Option}
use Rattle.std.specs.Prelude.{Some}
use Rattle.math.specs.Vector.{vadd, unit_of}
use Rattle.mesh.specs.Normals.{Hit, sum_all, sum_near, near_by, near_step, or_else}
use Rattle.tables.specs.declared.layout.Plan.{Plan}
use Rattle.block.specs.Edition.{most}
use Rattle.tables.specs.Soups.{gather_in, owner_in}
use Rattle.lists.specs.Loops.{All}
use Rattle.lists.specs.Parts.{seg}
use Rattle.lists.proofs.Tabs.{length_tab, tab_at}
use Rattle.lists.proofs.Lists.{drop_next, All_map, All_of_map, map_map}
use Rattle.lists.specs.Counts.{below, uses_from}
use Rattle.normals.specs.Group.{gathers_in}
use Rattle.normals.specs.Rows.{normal_in, unit_in, hit_of, hit_in, hits_from, hits_at, Ready, no_unit}
use Rattle.normals.proofs.Floats.{near_mirrored}
use Rattle.lists.proofs.Counts.{below_le, below_next, below_all, uses_within}

module _ {w : List ℕ} {t : Plan} (R : Ready w t) where
  pub length_gathers : length (gathers_in w t) ≡ t.count
  unfolding gathers_in
  length_gathers = length_tab (gather_in w t) t.count 0

  -- the last number's faces end with the corners
  pub all_below_lem : below t.spots (gathers_in w t) ≡ t.count
  unfolding gathers_in
  all_below_lem =
      let l = length_gathers in
      below_all t.spots (gathers_in w t) (λ j b. rw (tab_at (gather_in w t) t.count j 0 (omega arith)) (R.gathers j (omega arith))) ∙ l

  pub all_before : (p : ℕ) → p ≤ t.spots → t.spots ≤ p → t.count ≡ below p (gathers_in w t)
  all_before p h k = let e : t.spots ≡ p = omega arith in sym all_below_lem ∙ ap (λ (n : ℕ). below n (gathers_in w t)) e

  -- of all faces by number, those of number p stand from a to b
  module _ (p a b : ℕ) (h : p < t.spots) (ea : a ≡ below p (gathers_in w t)) (eb : b ≡ below (p + 1) (gathers_in w t)) where
    ends_at : b ≡ below (suc p) (gathers_in w t)
    ends_at = eb ∙ ap (λ (n : ℕ). below n (gathers_in w t)) (add-one p)

    abbrev pub rest : List ℕ
    rest = take (length w - t.nexts) (drop t.nexts w)

    pub ends_fit : (a ≤ b) × (b ≤ length rest) × (b ≤ most)
    ends_fit =
        let r = R.room in
        let n = below_next p (gathers_in w t) in
        let m = below_le (suc p) (gathers_in w t) in
        let l = length_gathers in
        let e = ends_at in
        let k : length rest ≡ length w - t.nexts = length-take-le (length w - t.nexts) (drop t.nexts w) (omega (arith, length-drop t.nexts w)) in
        (omega arith, omega arith, omega arith)

    faces_are : take (b - a) (drop a rest) ≡ map (owner_in w t) (uses_from (gathers_in w t) p 0)
    unfolding seg
    faces_are =
        let d = take_all (length w - t.nexts) (drop t.nexts w) (omega (arith, length-drop t.nexts w)) in
        ap (λ (l : List ℕ). take (b - a) (drop a l)) d ∙ ap (take (b - a)) (drop-drop a t.nexts w)
        ∙ (λ i. take (ends_at i - ea i) (drop (t.nexts + ea i) w)) ∙ R.grouped.faces p h

    pub faces_low : All (λ (g : ℕ). g < t.faces) (take (b - a) (drop a rest))
    unfolding uses_from
    faces_low =
        let l = length_gathers in
        rw faces_are (All_of_map (λ (g : ℕ). g < t.faces) (owner_in w t) (uses_from (gathers_in w t) p 0)
        (All_map (λ c k. R.owned c (omega arith)) (uses_from (gathers_in w t) p 0) (uses_within p 0 (gathers_in w t))))

    pub faces_hit : map (hit_of w t) (take (b - a) (drop a rest)) ≡ hits_at w t p
    unfolding hits_from hit_in
    faces_hit = ap (map (hit_of w t)) faces_are ∙ map_map (hit_of w t) (owner_in w t) (uses_from (gathers_in w t) p 0)

-- a sum f over faces, from s₀ on: s and the faces from k on give the same
pub record Left (f : V3 → List Hit → V3) (w : List ℕ) (t : Plan) (s₀ : V3) (us : List ℕ) (s : V3) (k : ℕ) : Type 0 where
  pub sum : f s (map (hit_of w t) (drop k us)) ≡ f s₀ (map (hit_of w t) us)

module _ (f : V3 → List Hit → V3) {w : List ℕ} {t : Plan} {s₀ : V3} {us : List ℕ} where
  pub left_start : Left f w t s₀ us s₀ 0
  left_start = record { sum = refl }

  pub left_step : (s r : V3) (k : ℕ) → Left f w t s₀ us s k → k < length us → ((hs : List Hit) → f s (hit_of w t (get_or us k 0) ∷ hs) ≡ f r hs) → Left f w t s₀ us r (k + 1)
  left_step s r k L h g = record { sum = sym (g (map (hit_of w t) (drop (k + 1) us))) ∙ sym (ap (λ (l : List ℕ). f s (map (hit_of w t) l)) (drop_next 0 us k h)) ∙ L.sum }

  pub left_end : (s z : V3) (k : ℕ) → s₀ ≡ z → Left f w t s₀ us s k → length us ≤ k → f s [] ≡ s → s ≡ f z (map (hit_of w t) us)
  left_end s z k e L h n =
      sym n ∙ sym (ap (λ (l : List ℕ). f s (map (hit_of w t) l)) (drop_of_length-le us {i = k} h)) ∙ L.sum ∙ ap (λ (x : V3). f x (map (hit_of w t) us)) e

-- ---- one face more

module _ (w : List ℕ) (t : Plan) (x g : ℕ) (s r : V3) (e : g ≡ x) where
  pub all_one : (n : V3) → n ≡ normal_in w t g → r ≡ vadd s n → (hs : List Hit) → sum_all s (hit_of w t x ∷ hs) ≡ sum_all r hs
  unfolding sum_all
  all_one n en er hs = ap (λ (k : V3). sum_all k hs) (sym (er ∙ ap (vadd s) (en ∙ ap (normal_in w t) e)))

  pub near_one_lem : (b : Float) (own : ℕ) (u v n : V3) → Ready w t → g < t.faces → v ≡ or_else (unit_in w t g) no_unit → n ≡ normal_in w t g → r ≡ near_by b own u g (Some v) s n
      → (hs : List Hit) → sum_near b own u s (hit_of w t x ∷ hs) ≡ sum_near b own u r hs
  unfolding sum_near near_step
  near_one_lem b own u v n R i ev en er hs =
      ap (λ (k : V3). sum_near b own u k hs)
      (sym (er ∙ (λ z. near_by b own u g (Some (ev z)) s (en z)) ∙ near_mirrored b own u g (unit_in w t g) s (normal_in w t g)
      ∙ ap (λ (k : (Option V3)). near_by b own u g k s (normal_in w t g)) (R.units g i)
      ∙ ap (λ (k : ℕ). near_by b own u k (unit_of (normal_in w t k)) s (normal_in w t k)) e))

pub all_none : (s : V3) → sum_all s [] ≡ s
unfolding sum_all
all_none s = refl

pub near_nothing : (b : Float) (own : ℕ) (u s : V3) → sum_near b own u s [] ≡ s
unfolding sum_near
near_nothing b own u s = refl
