-- FORMAT 10.2: the number by which corners are gathered is that of their point, or of one before it.
use mathlib.Core.Path.{◌≡◌, refl, sym, ap, ◌∙◌}
use mathlib.Core.Bool.{Bool, true, false, cond}
use Prim.Native.Nat.{ℕ, zero, suc, ◌+◌, ◌-◌, ◌*◌, ◌%◌, ◌≤◌, ◌<◌}
use native.Mathlib.Nat.{add_comm}
use native.Mathlib.Omega.{arith}
use lib.Dec.{eqb}
use borrow.Author.Tests.{eq-eqb, ne_eqb}
use Rattle.lists.proofs.Numbers.{column_of}
use Rattle.mesh.specs.Soup.{gathered}

-- without rings it is the point's own
pub gathered_alone : (p : ℕ) → gathered 0 p ≡ p
unfolding gathered
gathered_alone p = refl

pub gathered_le : (ring p : ℕ) → gathered ring p ≤ p
unfolding gathered
gathered_le zero p = omega arith
gathered_le (suc k) p = go (eqb (p % suc k) k)
  where
    go : (b : Bool) → cond b (p - k) p ≤ p
    go true = omega arith
    go false = omega arith

-- the last of a ring, and any other
pub gathered_last : (ring p : ℕ) → 0 < ring → p % ring ≡ ring - 1 → gathered ring p ≡ p - (ring - 1)
unfolding gathered
gathered_last zero p h e = let z : ⊥ = omega arith in absurd z
gathered_last (suc k) p h e = let q : suc k - 1 ≡ k = omega arith in rw (eq-eqb (p % suc k) k (e ∙ q)) (ap (λ (n : ℕ). p - n) (sym q))

pub gathered_own : (ring p : ℕ) → 0 < ring → (p % ring ≡ ring - 1 → ⊥) → gathered ring p ≡ p
unfolding gathered
gathered_own zero p h d = let z : ⊥ = omega arith in absurd z
gathered_own (suc k) p h d = let q : suc k - 1 ≡ k = omega arith in rw (ne_eqb (p % suc k) k (λ e. d (e ∙ sym q))) refl

-- row by row, in rows of m: the last column bears the first's numbers
column_is : (m i j : ℕ) → j < m → (i * m + j) % m ≡ j
column_is m i j h = ap (λ (k : ℕ). k % m) (add_comm (i * m) j) ∙ column_of m j i h

pub gathered_column : (m i j : ℕ) → j + 1 < m → gathered m (i * m + j) ≡ i * m + j
gathered_column m i j h =
    gathered_own m (i * m + j) (omega arith) (λ e. let q = column_is m i j (omega arith) in let z : ⊥ = omega (arith, e, q) in z)

pub gathered_end : (m i : ℕ) → 0 < m → gathered m (i * m + (m - 1)) ≡ i * m
gathered_end m i h = gathered_last m (i * m + (m - 1)) h (column_is m i (m - 1) (omega arith)) ∙ omega arith
