-- The loop over a run that counts: what is counted, and what is left.
use mathlib.Core.Path.{◌≡◌, refl, sym, ap, ◌∙◌}
use mathlib.Core.Bool.{Bool, true, false, cond}
use mathlib.Core.List.{List, [], ◌∷◌}
use Prim.Native.Nat.{ℕ, suc, ◌+◌, ◌≤◌}
use native.Mathlib.Omega.{arith}
use lib.Dec.{ltb}
use lib.ListN.{length}
use Rattle.mesh.specs.Sizes.{named, lines_after}
use Rattle.lines.specs.Totals.{Counted}
use Rattle.lists.proofs.Numbers.{carry}

-- the entries `rest` of es are not yet counted; `after` says whether the one before them names a point
pub record Counting (p : ℕ) (es rest : List ℕ) (after : Bool) (c n : ℕ) : Type 0 where
  pub few : (c + length rest ≤ length es) × (n + length rest ≤ length es)
  pub corners : c + named p rest ≡ named p es
  pub lines : n + lines_after p after rest ≡ lines_after p false es

module _ {p : ℕ} {es : List ℕ} where
  module _ {rest : List ℕ} {after : Bool} {corners lines : ℕ} (C : Counting p es rest after corners lines) where
    pub counting_next : {e : ℕ} {r : List ℕ} {corners' lines' : ℕ} → rest ≡ e ∷ r → corners' ≡ cond (ltb e p) (suc corners) corners
        → lines' ≡ cond after (cond (ltb e p) (suc lines) lines) lines → Counting p es r (ltb e p) corners' lines'
    unfolding named lines_after
    counting_next {e} {r} d ec el =
        let b = ltb e p in
        let x : cond b (suc (named p r)) (named p r) ≡ named p rest = sym (ap (named p) d) in
        let y : cond after (cond b (suc (lines_after p b r)) (lines_after p b r)) (lines_after p b r) ≡ lines_after p after rest
        = sym (ap (lines_after p after) d) in
        let l = ap length d in
        let f = C.few in
        record {
          few = (rw ec (up b corners (omega arith)), rw el (up2 after b lines (omega arith)));
          corners = ap (λ (n : ℕ). n + named p r) ec ∙ carry b corners (named p r) ∙ ap (λ (n : ℕ). corners + n) x ∙ C.corners;
          lines = ap (λ (n : ℕ). n + lines_after p b r) el ∙ move2 after b lines (lines_after p b r) ∙ ap (λ (n : ℕ). lines + n) y ∙ C.lines;
        }
      where
        up : (b : Bool) (n : ℕ) → n + suc (length r) ≤ length es → cond b (suc n) n + length r ≤ length es
        up true n h = omega arith
        up false n h = omega arith

        up2 : (a b : Bool) (n : ℕ) → n + suc (length r) ≤ length es → cond a (cond b (suc n) n) n + length r ≤ length es
        up2 true b n h = up b n h
        up2 false b n h = omega arith

        move2 : (a b : Bool) (n m : ℕ) → cond a (cond b (suc n) n) n + m ≡ n + cond a (cond b (suc m) m) m
        move2 true b n m = carry b n m
        move2 false b n m = refl

    pub counting_end : rest ≡ [] → Counted p es (record { corners = corners; lines = lines })
    unfolding named lines_after
    counting_end d =
        let f = C.few in
        record {
          corners = omega (arith, C.corners, ap (named p) d);
          lines = omega (arith, C.lines, ap (lines_after p after) d);
          few = (omega arith, omega arith);
        }
