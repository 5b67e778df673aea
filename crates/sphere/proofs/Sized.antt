-- How large a sphere is.
use mathlib.Core.Path.{◌≡◌, refl, sym, ap, ◌∙◌}
use mathlib.Core.Bool.{Bool, true, false, not, cond}
use mathlib.Core.List.{List, [], ◌∷◌, ◌++◌}
use Prim.Native.Nat.{ℕ, zero, suc, ◌+◌, ◌-◌, ◌*◌, ◌≤◌, ◌<◌}
use native.Mathlib.Nat.{mul-add, mul_assoc, mul-one}
use native.Mathlib.Numerals.{add-one}
use native.Mathlib.Omega.{arith}
use borrow.Author.Tests.{eq-eqb, ne_eqb}
use lib.Dec.{eqb}
use lib.ListN.{length, length-append}
use lib.Ieee.{Float}
use Rattle.lists.specs.Lists.{flat}
use Rattle.lists.specs.Loops.{tab}
use Rattle.lists.proofs.Pieces.{flat_more, length_pieces}
use Rattle.lists.proofs.Tabs.{length_tab}
use Rattle.parts.specs.Written.{Sized}
use Rattle.sphere.specs.Sphere.{sphere_vert, sphere_row, sphere_quad, sphere_band, sphere_part}

pub row_length : (r : Float) (n k : ℕ) (ps : List Float) (j : ℕ) → length (sphere_row r n k ps j) ≡ n + 1
unfolding sphere_row
row_length r n k ps j = length_tab (sphere_vert r n k ps j) (n + 1) 0

-- a triangle or none
abbrev three : Bool → ℕ
three b = cond b 3 0

two_lengths : (b d : Bool) (x y z u v w : ℕ) → length (cond b (x ∷ y ∷ z ∷ []) [] ++ cond d (u ∷ v ∷ w ∷ []) []) ≡ three b + three d
two_lengths true true x y z u v w = refl
two_lengths true false x y z u v w = refl
two_lengths false true x y z u v w = refl
two_lengths false false x y z u v w = refl

module _ (n k : ℕ) where
  quad_length : (j i : ℕ) → length (sphere_quad n k j i) ≡ three (not (eqb j 0)) + three (not (eqb (j + 1) k))
  unfolding sphere_quad
  quad_length j i = two_lengths (not (eqb j 0)) (not (eqb (j + 1) k)) _ _ _ _ _ _

  band_length : (j : ℕ) → length (sphere_band n k j) ≡ n * (three (not (eqb j 0)) + three (not (eqb (j + 1) k)))
  unfolding sphere_band
  band_length j = length_pieces (sphere_quad n k j) _ (quad_length j) n

  -- the indices of the first m bands
  abbrev made : ℕ → ℕ
  made m = length (flat (tab (sphere_band n k) m 0))

  made_more : (m : ℕ) → made (m + 1) ≡ made m + n * (three (not (eqb m 0)) + three (not (eqb (m + 1) k)))
  made_more m = ap length (flat_more (sphere_band n k) m) ∙ length-append (flat (tab (sphere_band n k) m 0)) (sphere_band n k m) ∙ ap (λ (t : ℕ). made m + t) (band_length m)

  -- all but the last
  most : (m : ℕ) → m + 1 < k → made (m + 1) + 3 * n ≡ 6 * (n * (m + 1))
  unfolding tab flat
  most zero h =
      let a : made (0 + 1) ≡ 0 + n * (0 + 3) = rw (ne_eqb (0 + 1) k (λ e. omega arith)) at (made_more 0) in
      omega (arith, a, mul-one n)
  most (suc m) h =
      let p = most m (omega arith) in
      let a : made (suc m + 1) ≡ made (suc m) + n * (3 + 3) =
      rw (ne_eqb (suc m) 0 (λ e. omega arith), ne_eqb (suc m + 1) k (λ e. omega arith)) at (made_more (suc m)) in
      let b : made (suc m) + 3 * n ≡ 6 * (n * suc m) = rw (add-one m) at p in
      omega (arith, a, b, mul-add n (suc m) 1, mul-one n)

  pub all_made : 2 ≤ k → made k ≡ 6 * n * (k - 1)
  all_made h =
      let m : ℕ = k - 2 in
      let e : k ≡ m + 1 + 1 = omega arith in
      let a : made (m + 1 + 1) ≡ made (m + 1) + n * (3 + 0) =
      rw (ne_eqb (m + 1) 0 (λ e. omega arith), eq-eqb (m + 1 + 1) k (sym e)) at (made_more (m + 1)) in
      let b = most m (omega arith) in
      let f : m + 1 ≡ k - 1 = omega arith in
      let g : made k ≡ 6 * (n * (m + 1)) = ap made e ∙ omega (arith, a, b, mul-one n) in
      g ∙ ap (λ (t : ℕ). 6 * (n * t)) f ∙ sym (mul_assoc 6 n (k - 1))

pub sphere_sized : (n k : ℕ) → 2 ≤ k → (r : Float) (ps : List Float) → Sized (sphere_part r n k ps) (record { vertices = (k + 1) * (n + 1); indices = 6 * n * (k - 1); pairs = (k + 1) * (n + 2) })
unfolding sphere_part
sphere_sized n k h r ps =
    record { vertices = sym (length_pieces (sphere_row r n k ps) (n + 1) (row_length r n k ps) (k + 1)); indices = sym (all_made n k h); pairs = refl }
