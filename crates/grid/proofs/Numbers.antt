-- The numbers of a grid's quads and points.
use Prim.Native.Nat.{ℕ, zero, suc, ◌+◌, ◌-◌, ◌*◌, ◌/◌, ◌%◌, ◌≤◌, ◌<◌}
use native.Mathlib.Nat.{mod-lt, div-lt_iff_lt-mul}
use native.Mathlib.Omega.{arith}
use lib.ListN.{get_or}
use Rattle.lists.proofs.Numbers.{cell_turned}
use Rattle.mesh.specs.Quads.{quad}
use Rattle.grid.specs.Listings.{quad_of, corner_point}

-- a quad lies within the grid
module _ (xd zd q : ℕ) (wide : 2 ≤ xd) (h : q < (zd - 1) * (xd - 1)) where
  pub column : q % (xd - 1) + 1 < xd
  column = let l : q % (xd - 1) < xd - 1 = mod-lt q (omega arith) in omega arith

  row : q / (xd - 1) + 1 < zd
  row = let l : q / (xd - 1) < zd - 1 = (div-lt_iff_lt-mul {k = xd - 1} {x = q} {y = zd - 1} (omega arith)).1 h in omega arith

  -- each of the four points is below the sides multiplied
  pub quad_below : (k : ℕ) → get_or (quad_of (λ p. p) xd q) k 0 < xd * zd
  unfolding quad
  quad_below zero = cell_turned xd zd _ _ (omega (arith, column)) (omega (arith, row))
  quad_below (suc zero) = cell_turned xd zd _ _ (omega (arith, column)) row
  quad_below (suc (suc zero)) = cell_turned xd zd _ _ column row
  quad_below (suc (suc (suc zero))) = cell_turned xd zd _ _ column (omega (arith, row))
  quad_below (suc (suc (suc (suc k)))) = omega (arith, cell_turned xd zd _ _ column row)

-- a corner's point is one of the grid's
pub point_below : (xd zd c : ℕ) → 2 ≤ xd → c < 4 * ((zd - 1) * (xd - 1)) → corner_point xd c < xd * zd
unfolding corner_point
point_below xd zd c h l = quad_below xd zd (c / 4) h (omega arith) (c % 4)
