-- Sums over the edges of pieces.
use mathlib.Core.Path.{◌≡◌, sym, ap, ◌∙◌}
use mathlib.Core.List.{List, [], ◌++◌, append_assoc}
use Prim.Native.Nat.{ℕ, zero, suc, ◌+◌}
use native.Mathlib.Nat.{zero-add}
use native.Mathlib.Numerals.{add-one}
use native.Mathlib.Omega.{arith}
use Rattle.lists.specs.Lists.{flat, total}
use Rattle.lists.specs.Loops.{tab}
use Rattle.lists.proofs.Pieces.{flat_more}
use Rattle.lists.proofs.Totals.{sum_to, sum_more}
use Rattle.parts.specs.Edges.{edge_sum}

-- the edges of n pieces, of which each has whole triangles
pub pieces_sum : (f : ℕ → ℕ → ℕ) (F : ℕ → List ℕ) (E : ℕ → ℕ) → ((t : ℕ) (y : List ℕ) → edge_sum f (F t ++ y) ≡ E t + edge_sum f y)
    → (n : ℕ) (y : List ℕ) → edge_sum f (flat (tab F n 0) ++ y) ≡ sum_to E n + edge_sum f y
unfolding total tab flat
pieces_sum f F E h zero y = sym (zero-add (edge_sum f y))
pieces_sum f F E h (suc n) y =
    let a : edge_sum f (flat (tab F (suc n) 0) ++ y) ≡ edge_sum f (flat (tab F n 0) ++ (F n ++ y)) =
    ap (λ (k : ℕ). edge_sum f (flat (tab F k 0) ++ y)) (sym (add-one n)) ∙ ap (λ (l : List ℕ). edge_sum f (l ++ y)) (flat_more F n) ∙ ap (edge_sum f) (append_assoc (flat (tab F n 0)) (F n) y) in
    let b = pieces_sum f F E h n (F n ++ y) in
    omega (arith, a, b, h n y, sum_more E n)
