-- FORMAT 17.7: every index of a sphere names a vertex.
use mathlib.Core.Path.{sym, subst}
use mathlib.Core.Bool.{Bool, true, false, not, cond}
use mathlib.Core.List.{List, [], ◌∷◌, ◌++◌}
use Prim.Native.Nat.{ℕ, suc, ◌+◌, ◌*◌, ◌≤◌, ◌<◌}
use native.Mathlib.Nat.{suc-mul, mul-le-mul_right}
use native.Mathlib.Omega.{arith}
use lib.Dec.{eqb}
use lib.ListN.{length}
use lib.Ieee.{Float}
use Rattle.lists.specs.Lists.{flat}
use Rattle.lists.specs.Loops.{tab, All}
use Rattle.lists.proofs.Lists.{All_by, All_flat}
use Rattle.lists.proofs.Pieces.{length_pieces}
use Rattle.sphere.specs.Sphere.{sphere_row, sphere_quad, sphere_band, sphere_part, sphere_of}
use Rattle.parts.specs.Sizes.{dim_of, held_to}
use Rattle.math.specs.Vector.{one_f}
use Rattle.sphere.proofs.Sized.{row_length}

-- two triangles, each there or not, with numbers below m
two_within : (p q : Bool) (m a b c d : ℕ) → a < m → b < m → c < m → d < m → All (λ (i : ℕ). i < m) (cond p (a ∷ b ∷ c ∷ []) [] ++ cond q (a ∷ c ∷ d ∷ []) [])
two_within true true m a b c d ha hb hc hd = (ha, (hb, (hc, (ha, (hc, (hd, tt))))))
two_within true false m a b c d ha hb hc hd = (ha, (hb, (hc, tt)))
two_within false true m a b c d ha hb hc hd = (ha, (hc, (hd, tt)))
two_within false false m a b c d ha hb hc hd = tt

-- two rows of w from row j on, of k + 1
two_rows : (w j k : ℕ) → j < k → j * w + w + w ≤ (k + 1) * w
two_rows w j k h =
    let p : suc (suc j) * w ≤ (k + 1) * w = mul-le-mul_right w (omega arith) in
    omega (arith, p, suc-mul (suc j) w, suc-mul j w)

module _ (n k : ℕ) where
  abbrev below : ℕ → Type 0
  below i = i < (k + 1) * (n + 1)

  quad_within : (j i : ℕ) → j < k → i < n → All below (sphere_quad n k j i)
  unfolding sphere_quad
  quad_within j i hj hi =
      let p = two_rows (n + 1) j k hj in
      let a : ℕ = j * (n + 1) + i in
      two_within (not (eqb j 0)) (not (eqb (j + 1) k)) ((k + 1) * (n + 1)) a (a + 1) (a + (n + 1) + 1) (a + (n + 1)) (omega arith) (omega arith) (omega arith) (omega arith)

  band_within : (j : ℕ) → j < k → All below (sphere_band n k j)
  unfolding sphere_band
  band_within j hj = All_flat below (tab (sphere_quad n k j) n 0) (All_by (λ (l : List ℕ). All below l) (sphere_quad n k j) n (λ i hi. quad_within j i hj hi))

  part_within : (r : Float) (ps : List Float) → All (λ (i : ℕ). i < length (sphere_part r n k ps).verts) (sphere_part r n k ps).indices
  unfolding sphere_part
  part_within r ps =
      subst (λ (m : ℕ). All (λ (i : ℕ). i < m) (flat (tab (sphere_band n k) k 0))) (sym (length_pieces (sphere_row r n k ps) (n + 1) (row_length r n k ps) (k + 1)))
      (All_flat below (tab (sphere_band n k) k 0) (All_by (λ (l : List ℕ). All below l) (sphere_band n k) k band_within))

pub sphere_within : (radius : Float) (slices stacks : ℕ) (ps : List Float) → All (λ (i : ℕ). i < length (sphere_of radius slices stacks ps).verts) (sphere_of radius slices stacks ps).indices
unfolding sphere_of
sphere_within radius slices stacks ps = part_within (held_to slices 3) (held_to stacks 2) (dim_of radius one_f) ps
