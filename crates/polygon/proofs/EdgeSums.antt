-- The loop of `newell`: what is left to add, from the point that was read last.
use mathlib.Core.Path.{◌≡◌, refl, sym, ap, ◌∙◌}
use mathlib.Core.List.{List, [], ◌∷◌}
use Prim.Native.Nat.{ℕ, suc, ◌+◌, ◌-◌, ◌≤◌, ◌<◌}
use native.Mathlib.Numerals.{add-one}
use native.Mathlib.Omega.{arith}
use lib.ListN.{length, get_or, take, drop, drop_of_length-le}
use Rattle.std.proofs.lemmas.List.{take_all}
use lib.Seq.{drop-cons}
use Rattle.math.specs.declared.vector.V3.{V3}
use Rattle.polygon.specs.Points.{spot, spots}
use Rattle.polygon.specs.Facing.{edge_sum, nought, newell_from, newell}

-- the edges that are to be added first, where the names behind the first are as the code has them
pub newell_start : (points names : List ℕ) (a : V3) → 1 ≤ length names → a ≡ spot points (get_or names 0 0)
    → newell_from a nought (a ∷ spots points (take (length names - 1) (drop 1 names))) ≡ newell (spots points names)
unfolding newell spots
newell_start points [] a h e = let z : ⊥ = omega arith in absurd z
newell_start points (x ∷ l) a h e =
    ap (λ (m : List ℕ). newell_from a nought (a ∷ spots points m)) (take_all (length (x ∷ l) - 1) l (omega arith)) ∙ ap (λ (p : V3). newell_from p nought (p ∷ spots points l)) e

module _ (points names : List ℕ) where
  -- the edges that are left at i, where `first` is the first point, n the sum so far, and a the point before i
  abbrev Left : V3 → V3 → V3 → ℕ → V3
  Left first n a i = newell_from first n (a ∷ spots points (drop i names))

  pub newell_none : length names < 1 → nought ≡ newell (spots points names)
  unfolding newell spots
  newell_none e = go names e
    where
      go : (l : List ℕ) → length l < 1 → nought ≡ newell (spots points l)
      go [] q = refl
      go (x ∷ l) q = let z : ⊥ = omega arith in absurd z

  pub newell_go : (first n a b n' : V3) (i : ℕ) → i < length names → b ≡ spot points (get_or names i 0) → n' ≡ edge_sum n a b
      → Left first n' b (i + 1) ≡ Left first n a i
  unfolding newell_from spots
  newell_go first n a b n' i h e w =
      ap (λ (j : ℕ). newell_from first n' (b ∷ spots points (drop j names))) (add-one i)
      ∙ ap (λ (k : V3). newell_from first k (b ∷ spots points (drop (suc i) names))) w
      ∙ ap (λ (p : V3). newell_from first n (a ∷ p ∷ spots points (drop (suc i) names))) e
      ∙ ap (λ (l : List ℕ). newell_from first n (a ∷ spots points l)) (sym (drop-cons names i 0 h))

  pub newell_end : (first n a : V3) (i : ℕ) → length names ≤ i → Left first n a i ≡ edge_sum n a first
  unfolding newell_from spots
  newell_end first n a i h = ap (λ (l : List ℕ). newell_from first n (a ∷ spots points l)) (drop_of_length-le names h)
