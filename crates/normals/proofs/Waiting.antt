-- The corners' normals with some left out, and what is known of two sums.
use Rattle.std.proofs.Common.{take-append-drop}
use mathlib.Core.Path.{◌≡◌, refl, sym, ◌∙◌}
use mathlib.Core.Logic.{◌⊎◌, inl, inr, ⊎_elim}
use mathlib.Core.Bool.{true, false, true≢false}
use mathlib.Core.List.{List, [], ◌∷◌, ◌++◌}
use Prim.Native.Nat.{ℕ, ◌+◌, ◌*◌, ◌≤◌, ◌<◌}
use native.Mathlib.Nat.{not-suc-le-zero}
use native.Mathlib.Omega.{arith}
use lib.ListN.{length, drop}
use lib.Ieee.{Float}
use Rattle.math.specs.declared.vector.V3.{V3}
use Rattle.block.specs.declared.crease.CreaseRule.{CreaseRule}
use Rattle.block.specs.declared.crease.CreaseRule.TheVariants.{Bound}
use Rattle.lists.specs.Loops.{All, tab}
use Rattle.lists.specs.Parts.{spliced}
use Rattle.lists.proofs.Numbers.{same_or, side, lt_of_ne}
use Rattle.mesh.specs.Normals.{crease_sum}
use Rattle.tables.specs.declared.layout.Plan.{Plan}
use Rattle.normals.specs.declared.sums.Known.{Known}
use Rattle.normals.specs.Rows.{normal_in, hits_at, Ready, Summed}
use Rattle.normals.specs.Written.{corner_sum_in, corner_normal_in, three, spread}
use Rattle.normals.specs.Sums.{Told, Partly}
use Rattle.normals.proofs.Fills.{made_each}
use Rattle.normals.proofs.Floats.{vector_put, vector_out, vector_size, vector_above, summed_put}

-- ---- sums

module _ {w : List ℕ} {t : Plan} {b : Float} (k : Known) where
  -- a sum that was worked out
  pub told_new : k.sum.total ≡ crease_sum (Bound b) k.face (normal_in w t k.face) (hits_at w t k.number.0) → (k.sum.alone ≡ true → k.sum.total ≡ normal_in w t k.face) → Told w t b k
  unfolding corner_sum_in
  told_new e a = record {
    sum = λ c h eg eo. e ∙ λ i. crease_sum (Bound b) (sym eo i) (normal_in w t (sym eo i)) (hits_at w t (sym eg i));
    alone = a;
  }

-- ---- normals

module _ {d e : List Float} {w : List ℕ} {t : Plan} {rule : CreaseRule} where
  -- a normal put
  put_part : {e' : List Float} {n m : ℕ} (h : ℕ) {hs ks : List ℕ} (v : V3) → Partly d e w t rule n hs → h < t.count → 3 * t.count ≤ length e → v ≡ corner_normal_in w t rule h
      → e' ≡ spliced e (3 * h) (three v) → ((c : ℕ) → c < m → All (λ (k : ℕ). c ≡ k → ⊥) ks → (c ≡ h → ⊥) → (c < n) × All (λ (k : ℕ). c ≡ k → ⊥) hs) → Partly d e' w t rule m ks
  put_part {e'} {n} {m} h {hs} {ks} v P l r ev q f =
      let g : 3 * h + 3 ≤ length e = omega arith in
      record {
        size = vector_size e (3 * h) v q g ∙ P.size;
        behind = vector_above e (3 * h) v q g (3 * t.count) (omega arith) ∙ P.behind;
        made = λ c b b' a. ⊎_elim
            (λ (s : c ≡ h). rw s (vector_put e (3 * h) v q g ∙ ev))
            (λ (s : c ≡ h → ⊥). let z = f c b a s in vector_out e (3 * h) v q g (3 * c) (apart c s) ∙ P.made c z.0 b' z.1)
            (same_or c h);
        summed = summed_put e h v P.summed l r q;
      }
    where
      apart : (c : ℕ) → (c ≡ h → ⊥) → (3 * c + 3 ≤ 3 * h) ⊎ (3 * h + 3 ≤ 3 * c)
      apart c s = ⊎_elim (λ (x : c < h). inl (omega arith)) (λ (x : h < c). inr (omega arith)) (side c h s)

  -- the normal of the next corner
  pub part_next : {e' : List Float} (n : ℕ) {hs : List ℕ} (v : V3) → Partly d e w t rule n hs → n < t.count → 3 * t.count ≤ length e → v ≡ corner_normal_in w t rule n → e' ≡ spliced e (3 * n) (three v) → Partly d e' w t rule (n + 1) hs
  part_next n v P l r ev q = put_part n v P l r ev q (λ c b a s. (lt_of_ne c n b s, a))

  -- that of one left out
  pub part_filled : {e' : List Float} (n h : ℕ) {hs : List ℕ} (v : V3) → Partly d e w t rule n (h ∷ hs) → h < t.count → 3 * t.count ≤ length e → v ≡ corner_normal_in w t rule h → e' ≡ spliced e (3 * h) (three v) → Partly d e' w t rule n hs
  part_filled n h v P l r ev q = put_part h v P l r ev q (λ c b a s. (b, (s, a)))

  -- no corner left out
  pub part_none : (n h : ℕ) {hs : List ℕ} → t.count ≤ h → Partly d e w t rule n (h ∷ hs) → Partly d e w t rule n hs
  part_none n h l P = record { size = P.size; behind = P.behind; made = λ c b b' a. P.made c b b' ((λ q. absurd (omega arith)), a); summed = P.summed }

  pub part_less : (n m : ℕ) {hs : List ℕ} → m ≤ n → Partly d e w t rule n hs → Partly d e w t rule m hs
  part_less n m l P = record { size = P.size; behind = P.behind; made = λ c b b' a. P.made c (omega arith) b' a; summed = P.summed }

  -- the next corner left out
  pub part_skip : (n : ℕ) {hs : List ℕ} → Partly d e w t rule n hs → Partly d e w t rule (n + 1) (n ∷ hs)
  part_skip n P = record { size = P.size; behind = P.behind; made = λ c b b' a. P.made c (lt_of_ne c n b a.0) b' a.1; summed = P.summed }

  pub part_all : (n : ℕ) → Partly d e w t rule n [] → t.count ≤ n → 3 * t.count ≤ length d → e ≡ spread (tab (corner_normal_in w t rule) t.count 0) ++ drop (3 * t.count) d
  part_all n P l r =
      let s = P.size in
      sym (take-append-drop (3 * t.count) e) ∙ λ i. made_each (corner_normal_in w t rule) e t.count (omega arith) (λ c b. P.made c (omega arith) b tt) i ++ P.behind i
