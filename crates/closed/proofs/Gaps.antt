-- FORMAT 18: outlines without gaps make every step as often as the one back, and outlines that do have no gaps.
use mathlib.Core.Path.{◌≡◌, refl, sym, ap, ◌∙◌}
use mathlib.Core.Logic.{◌⊎◌, inl, inr}
use mathlib.Core.Bool.{Bool, true, false, ◌&&◌}
use mathlib.Core.List.{List, [], ◌∷◌}
use Prim.Native.Nat.{ℕ, ◌+◌}
use native.Mathlib.Omega.{arith}
use borrow.Author.Tests.{eqb-true, eq-eqb}
use lib.Dec.{eqb}
use Rattle.lists.specs.Loops.{pick}
use Rattle.lists.specs.Lists.{total}
use Rattle.polygon.specs.Edges.{edge, walk, around}
use Rattle.closed.specs.Outlines.{Outline}
use Rattle.closed.specs.Edges.{steps_in, gap, gaps}
use Rattle.closed.specs.Closed.{Paired}

-- ---- a weight that is 0 of all steps is 0 of each that is made

module _ (h : ℕ → ℕ → ℕ) (p q : ℕ) where
  -- the step from p to q is not made, or it weighs nothing
  abbrev Free : ℕ → Type 0
  Free n = (n ≡ 0) ⊎ (h p q ≡ 0)

  free_step : (x y : ℕ) → h x y ≡ 0 → Free (edge p q x y)
  free_step x y z = go (eqb x p) (eqb y q) refl refl
    where
      go : (a b : Bool) → eqb x p ≡ a → eqb y q ≡ b → Free (pick (a && b) 1 0)
      go true true e f = inr (sym (λ i. h (eqb-true x p e i) (eqb-true y q f i)) ∙ z)
      go true false e f = inl refl
      go false b e f = inl refl

  free_sum : (m n : ℕ) → Free m → Free n → Free (m + n)
  free_sum m n (inl a) (inl b) = inl (omega arith)
  free_sum m n (inl a) (inr b) = inr b
  free_sum m n (inr a) y = inr a

  free_walk : (x : ℕ) (l : List ℕ) (y : ℕ) → walk h x l y ≡ 0 → Free (walk (edge p q) x l y)
  unfolding walk
  free_walk x [] y z = free_step x y z
  free_walk x (w ∷ l) y z = free_sum (edge p q x w) (walk (edge p q) w l y) (free_step x w (omega arith)) (free_walk w l y (omega arith))

  free_around : (o : Outline) → around h o ≡ 0 → Free (around (edge p q) o)
  unfolding around
  free_around [] z = inl refl
  free_around (x ∷ l) z = free_walk x l x z

  free_total : (os : List Outline) → total (around h) os ≡ 0 → Free (total (around (edge p q)) os)
  unfolding total
  free_total [] z = inl refl
  free_total (o ∷ os) z = free_sum (around (edge p q) o) (total (around (edge p q)) os) (free_around o (omega arith)) (free_total os (omega arith))

-- ---- no gaps

gap_none : (os : List Outline) (p q : ℕ) → gap os p q ≡ 0 → steps_in os p q ≡ steps_in os q p
unfolding gap
gap_none os p q z = go (eqb (steps_in os p q) (steps_in os q p)) refl z
  where
    go : (b : Bool) → eqb (steps_in os p q) (steps_in os q p) ≡ b → pick {A = ℕ} b 0 1 ≡ 0 → steps_in os p q ≡ steps_in os q p
    go true e n = eqb-true (steps_in os p q) (steps_in os q p) e
    go false e n = let y : ◌≡◌ {A = ℕ} 1 0 = n in absurd (omega arith)

step_met : (os : List Outline) → gaps os ≡ 0 → (p q : ℕ) → (steps_in os p q ≡ 0) ⊎ (gap os p q ≡ 0)
unfolding gaps steps_in
step_met os z p q = free_total (gap os) p q os z

pub gapless_paired : (os : List Outline) → gaps os ≡ 0 → Paired (steps_in os)
gapless_paired os z p q = both (step_met os z p q) (step_met os z q p)
  where
    both : (steps_in os p q ≡ 0) ⊎ (gap os p q ≡ 0) → (steps_in os q p ≡ 0) ⊎ (gap os q p ≡ 0) → steps_in os p q ≡ steps_in os q p
    both (inr a) y = gap_none os p q a
    both (inl a) (inr b) = sym (gap_none os q p b)
    both (inl a) (inl b) = a ∙ sym b

-- ---- and back

module _ (h : ℕ → ℕ → ℕ) (none : (p q : ℕ) → h p q ≡ 0) where
  walk_none : (x : ℕ) (l : List ℕ) (y : ℕ) → walk h x l y ≡ 0
  unfolding walk
  walk_none x [] y = none x y
  walk_none x (w ∷ l) y = let a = none x w in let b = walk_none w l y in omega arith

  around_none : (o : Outline) → around h o ≡ 0
  unfolding around
  around_none [] = refl
  around_none (x ∷ l) = walk_none x l x

  total_none : (os : List Outline) → total (around h) os ≡ 0
  unfolding total
  total_none [] = refl
  total_none (o ∷ os) = let a = around_none o in let b = total_none os in omega arith

pub paired_gapless : (os : List Outline) → Paired (steps_in os) → gaps os ≡ 0
unfolding gaps gap
paired_gapless os h = total_none (gap os) (λ p q. ap (λ (b : Bool). pick b 0 1) (eq-eqb (steps_in os p q) (steps_in os q p) (h p q))) os
