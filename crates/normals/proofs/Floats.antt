-- Vectors among the floats: the rows once more, and the normals in front of them.
use mathlib.Core.Path.{◌≡◌, refl, sym, ap, ◌∙◌}
use mathlib.Core.Logic.{◌⊎◌, inl, inr, ⊎_elim}
use mathlib.Core.Bool.{Bool, false, cond}
use mathlib.Core.List.{List}
use Prim.Native.Nat.{ℕ, ◌+◌, ◌-◌, ◌*◌, ◌≤◌, ◌<◌}
use native.Mathlib.Nat.{add-zero}
use native.Mathlib.Omega.{arith}
use borrow.Author.Tests.{eq-eqb, ne_eqb}
use lib.Dec.{eqb}
use lib.ListN.{length, get_or, drop}
use lib.Seq.{drop-drop}
use lib.Ieee.{Float, nan, inf, fin, binary32, add, mul, lt}
use Rattle.math.specs.declared.vector.V3.{V3}
use Rattle.std.specs.Prelude.{Option}
use Rattle.std.specs.Prelude.{Some, None}
use Rattle.math.specs.Vector.{v3, vadd, vdot}
use Rattle.block.specs.declared.crease.CreaseRule.{CreaseRule}
use Rattle.mesh.specs.Normals.{is_near, near_by, or_else}
use Rattle.tables.specs.declared.layout.Plan.{Plan}
use Rattle.lists.specs.Parts.{spliced, Out}
use Rattle.lists.proofs.Splices.{put_size, put_at, put_out, put_above}
use Rattle.lists.proofs.Numbers.{last_or}
use Rattle.normals.specs.Rows.{at3, unit_at, normal_in, unit_in, vector, no_unit, Mirrored, Summed}
use Rattle.normals.specs.Written.{three}

-- ---- no unit vector is near to nothing

mul_nan : (x : Float) → mul binary32 x nan ≡ nan
unfolding mul
mul_nan nan = refl
mul_nan (inf s) = refl
mul_nan (fin s m e) = refl

lt_nan : (x : Float) → lt x nan ≡ false
unfolding lt
lt_nan nan = refl
lt_nan (inf s) = refl
lt_nan (fin s m e) = refl

far : (b : Float) (u : V3) → lt b (vdot u no_unit) ≡ false
unfolding add
far b u = rw (mul_nan u.x) (lt_nan b)

pub near_mirrored : (b : Float) (own : ℕ) (u : V3) (g : ℕ) (k : (Option V3)) (s n : V3) → near_by b own u g (Some (or_else k no_unit)) s n ≡ near_by b own u g k s n
unfolding near_by is_near or_else
near_mirrored b own u g (Some v) s n = refl
near_mirrored b own u g None s n = ap (λ (r : Bool). cond (eqb g own) s (cond r (vadd s n) s)) (far b u)

-- ---- a unit vector by its flag, from the words and from the floats

module _ (w : List ℕ) (a : ℕ) where
  pub flag_none : get_or w a 0 ≡ 0 → unit_at w a ≡ None
  unfolding unit_at
  flag_none e = rw (eq-eqb (get_or w a 0) 0 e) refl

  module _ (n : get_or w a 0 ≡ 0 → ⊥) where
    flag_some : unit_at w a ≡ Some (at3 w (a + 1))
    unfolding unit_at
    flag_some = rw (ne_eqb (get_or w a 0) 0 n) refl

    pub unit_mirrored : (v : V3) → v ≡ or_else (unit_at w a) no_unit → Some v ≡ unit_at w a
    unfolding or_else
    unit_mirrored v e = ap Some (e ∙ ap (λ (k : (Option V3)). or_else k no_unit) flag_some) ∙ sym flag_some

-- ---- a vector put at a

module _ (d : List Float) (a : ℕ) (v : V3) {e : List Float} (q : e ≡ spliced d a (three v)) (h : a + 3 ≤ length d) where
  pub vector_put : vector e a ≡ v
  unfolding vector
  vector_put =
      let at : (j : ℕ) → j < 3 → get_or e (a + j) nan ≡ get_or (three v) j nan = put_at d a (three v) q refl h nan in
      λ i. v3 ((ap (λ (k : ℕ). get_or e k nan) (sym (add-zero a)) ∙ at 0 (omega arith)) i) (at 1 (omega arith) i) (at 2 (omega arith) i)

  pub vector_out : (b : ℕ) → (b + 3 ≤ a) ⊎ (a + 3 ≤ b) → vector e b ≡ vector d b
  unfolding vector
  vector_out b o =
      let out : (i : ℕ) → Out a 3 i → get_or e i nan ≡ get_or d i nan = put_out d a (three v) q refl h nan in
      ⊎_elim
      (λ (l : b + 3 ≤ a). λ i. v3 (out b (inl (omega arith)) i) (out (b + 1) (inl (omega arith)) i) (out (b + 2) (inl (omega arith)) i))
      (λ (l : a + 3 ≤ b). λ i. v3 (out b (inr (omega arith)) i) (out (b + 1) (inr (omega arith)) i) (out (b + 2) (inr (omega arith)) i)) o

  pub vector_size : length e ≡ length d
  vector_size = put_size d a (three v) q refl h

  pub vector_above : (n : ℕ) → a + 3 ≤ n → drop n e ≡ drop n d
  vector_above n l =
      let k : a + 3 + (n - (a + 3)) ≡ n = omega arith in
      ap (λ (j : ℕ). drop j e) (sym k) ∙ sym (drop-drop (n - (a + 3)) (a + 3) e) ∙ ap (drop (n - (a + 3))) (put_above d a (three v) q refl h)
      ∙ drop-drop (n - (a + 3)) (a + 3) d ∙ ap (λ (j : ℕ). drop j d) k

-- ---- the rows

-- a turn of the loop
pub mirror_next : (d : List Float) {d₁ d₂ : List Float} {w : List ℕ} {t : Plan} (g a : ℕ) (n u : V3) (k : (Option V3)) → Mirrored d w t g → a ≡ 3 * t.count + 6 * g → g < t.faces
    → n ≡ normal_in w t g → k ≡ unit_in w t g → u ≡ or_else k no_unit → d₁ ≡ spliced d a (three n) → d₂ ≡ spliced d₁ (a + 3) (three u)
    → Mirrored d₂ w t (g + 1)
mirror_next d {d₁} {d₂} {w} {t} g a n u k M ea h en ek eu e₁ e₂ =
    let r = M.room in
    let h₁ : a + 3 ≤ length d = omega arith in
    let l₁ = vector_size d a n e₁ h₁ in
    let h₂ : a + 3 + 3 ≤ length d₁ = omega arith in
    let l₂ = vector_size d₁ (a + 3) u e₂ h₂ in
    record {
      room = omega arith;
      normal = λ i b. ⊎_elim
          (λ (q : i ≡ g).
          let at : 3 * t.count + 6 * i ≡ a = omega arith in
          ap (vector d₂) at ∙ vector_out d₁ (a + 3) u e₂ h₂ a (inl (omega arith)) ∙ vector_put d a n e₁ h₁ ∙ en ∙ ap (normal_in w t) (sym q))
          (λ (q : i < g).
          vector_out d₁ (a + 3) u e₂ h₂ (3 * t.count + 6 * i) (inl (omega arith)) ∙ vector_out d a n e₁ h₁ (3 * t.count + 6 * i) (inl (omega arith)) ∙ M.normal i q)
          (last_or i g b);
      unit = λ i b. ⊎_elim
          (λ (q : i ≡ g).
          let at : 3 * t.count + 6 * i + 3 ≡ a + 3 = omega arith in
          ap (vector d₂) at ∙ vector_put d₁ (a + 3) u e₂ h₂ ∙ eu ∙ ap (λ (x : (Option V3)). or_else x no_unit) (ek ∙ ap (unit_in w t) (sym q)))
          (λ (q : i < g).
          vector_out d₁ (a + 3) u e₂ h₂ (3 * t.count + 6 * i + 3) (inl (omega arith)) ∙ vector_out d a n e₁ h₁ (3 * t.count + 6 * i + 3) (inl (omega arith)) ∙ M.unit i q)
          (last_or i g b);
    }

-- ---- a corner's normal put in front of them

pub summed_put : (d : List Float) {e : List Float} {w : List ℕ} {t : Plan} {rule : CreaseRule} (c : ℕ) (v : V3) → Summed w t rule d → c < t.count → 3 * t.count ≤ length d
    → e ≡ spliced d (3 * c) (three v) → Summed w t rule e
summed_put d {e} {w} {t} c v S h l q =
    let f : 3 * c + 3 ≤ length d = omega arith in
    record {
      every = S.every;
      bound = λ b. record {
        room = omega (arith, vector_size d (3 * c) v q f, (S.bound b).room);
        normal = λ g k. vector_out d (3 * c) v q f (3 * t.count + 6 * g) (inr (omega arith)) ∙ (S.bound b).normal g k;
        unit = λ g k. vector_out d (3 * c) v q f (3 * t.count + 6 * g + 3) (inr (omega arith)) ∙ (S.bound b).unit g k;
      };
    }
