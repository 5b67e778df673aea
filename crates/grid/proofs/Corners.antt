-- FORMAT 8.3, elevation_grid (quad): the corners as they are put, row by row and quad by quad.
use mathlib.Core.Path.{◌≡◌, refl, sym, ap, ◌∙◌}
use mathlib.Core.List.{List, [], ◌++◌}
use Prim.Native.Nat.{ℕ, suc, ◌+◌, ◌-◌, ◌*◌, ◌≤◌, ◌<◌}
use native.Mathlib.Nat.{mul_comm, mul_assoc}
use native.Mathlib.Omega.{arith}
use lib.ListN.{length, get_or}
use Rattle.block.specs.declared.header.Header.{Header}
use Rattle.lists.specs.Lists.{flat}
use Rattle.lists.specs.Loops.{tab}
use Rattle.lists.proofs.Numbers.{column_of, row_of, rows_of, piece_room}
use Rattle.lists.proofs.Pieces.{flat_rows_of, flat_rows_all, length_from}
use Rattle.mesh.specs.Quads.{quad}
use Rattle.mesh.specs.Grid.{x_dimension, z_dimension}
use Rattle.mesh.specs.Sizes.{quad_count}
use Rattle.grid.specs.Listings.{corner_point, quad_row}

module _ (xd : ℕ) where
  -- corner k of the quad in column i of row j
  corner_at : (i j k c : ℕ) → i < xd - 1 → k < 4 → c ≡ k + (i + j * (xd - 1)) * 4 → corner_point xd c ≡ get_or (quad (λ (a b : ℕ). a + b * xd) i j) k 0
  unfolding corner_point
  corner_at i j k c h l e =
      let q = i + j * (xd - 1) in
      rw (e, row_of 4 k q l, column_of 4 k q l, column_of (xd - 1) i j h, row_of (xd - 1) i j h) refl

  module _ (f : ℕ → List ℕ) where
    abbrev pub of_corner : ℕ → List ℕ
    of_corner c = f (corner_point xd c)

    -- the corners of that quad
    abbrev pub of_quad : ℕ → ℕ → List ℕ
    of_quad j i = flat (tab of_corner 4 (j * ((xd - 1) * 4) + i * 4))

    pub quad_is : (i j : ℕ) → i < xd - 1 → flat (quad (λ (a b : ℕ). f (a + b * xd)) i j) ≡ of_quad j i
    unfolding quad tab flat
    quad_is i j h =
        let c = j * ((xd - 1) * 4) + i * 4 in
        let e : c ≡ (i + j * (xd - 1)) * 4 = omega (arith, mul_assoc j (xd - 1) 4) in
        let at : (k d : ℕ) → k < 4 → d ≡ k + c → f (get_or (quad (λ (a b : ℕ). a + b * xd) i j) k 0) ≡ of_corner d = λ k d l q. ap f (sym (corner_at i j k d h l (omega arith))) in
        let p = at 0 c (omega arith) (omega arith) in
        let q = at 1 (suc c) (omega arith) (omega arith) in
        let r = at 2 (suc (suc c)) (omega arith) (omega arith) in
        let s = at 3 (suc (suc (suc c))) (omega arith) (omega arith) in
        λ t. p t ++ (q t ++ (r t ++ (s t ++ [])))

    pub row_is : (j : ℕ) → flat (tab (of_quad j) (xd - 1) 0) ≡ quad_row f xd j
    unfolding quad_row
    row_is j = flat_rows_of of_corner 4 (j * ((xd - 1) * 4)) (xd - 1)

    pub rows_are : (n : ℕ) → flat (tab (quad_row f xd) n 0) ≡ flat (tab of_corner (4 * ((xd - 1) * n)) 0)
    unfolding quad_row
    rows_are n = flat_rows_all of_corner ((xd - 1) * 4) n ∙ ap (λ (k : ℕ). flat (tab of_corner k 0)) (rows_of n (xd - 1) 4 ∙ ap (λ (k : ℕ). 4 * k) (mul_comm n (xd - 1)))

    -- with w words a corner
    module _ (w : ℕ) (h : (p : ℕ) → length (f p) ≡ w) where
      pub quad_width : (j i : ℕ) → length (of_quad j i) ≡ 4 * w
      quad_width j i = length_from of_corner w (λ c. h (corner_point xd c)) 4 (j * ((xd - 1) * 4) + i * 4)

      pub row_width : (j : ℕ) → length (quad_row f xd j) ≡ (xd - 1) * (4 * w)
      unfolding quad_row
      row_width j = length_from of_corner w (λ c. h (corner_point xd c)) ((xd - 1) * 4) (j * ((xd - 1) * 4)) ∙ mul_assoc (xd - 1) 4 w

-- the room of all rows, w words a quad, and of each
module _ (h : Header) (k len w : ℕ) (r : k + w * quad_count h ≤ len) where
  pub rows_room : k + (z_dimension h - 1) * ((x_dimension h - 1) * w) ≤ len
  rows_room = omega (arith, r, rows_of (z_dimension h - 1) (x_dimension h - 1) w, ap (λ (n : ℕ). w * n) (mul_comm (z_dimension h - 1) (x_dimension h - 1)))

  pub row_room : (j : ℕ) → j < z_dimension h - 1 → k + j * ((x_dimension h - 1) * w) + (x_dimension h - 1) * w ≤ len
  row_room j b = piece_room k (z_dimension h - 1) ((x_dimension h - 1) * w) j len rows_room b
