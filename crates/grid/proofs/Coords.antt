-- FORMAT 8.3, elevation_grid (coords): the points as they are put, row by row.
use mathlib.Core.Path.{◌≡◌, refl, ap, ◌∙◌}
use mathlib.Core.List.{List}
use Prim.Native.Nat.{ℕ, ◌+◌, ◌*◌, ◌≤◌, ◌<◌}
use native.Mathlib.Nat.{add_comm, mul_comm}
use native.Mathlib.Omega.{arith}
use lib.ListN.{length, get_or}
use Rattle.block.specs.declared.header.Header.{Header}
use Rattle.block.specs.declared.settings.Settings.{Settings}
use Rattle.bits.specs.declared.Words3.{Words3}
use Rattle.lists.specs.Lists.{flat}
use Rattle.lists.specs.Loops.{tab}
use Rattle.lists.proofs.Numbers.{column_of, row_of, rows_of}
use Rattle.lists.proofs.Tabs.{tab_from}
use Rattle.lists.proofs.Pieces.{flat_rows_all, length_from}
use Rattle.mesh.specs.Grid.{x_dimension, z_dimension, step_word, grid_point, grid_points}
use Rattle.mesh.specs.Words.{words3}
use Rattle.grid.specs.Listings.{row_points}

module _ (h : Header) (s : Settings) (heights : List ℕ) where
  -- the point in column i of row j
  pub point_put : (i j : ℕ) {x y z : ℕ} → i < x_dimension h → x ≡ step_word s.x_spacing i → y ≡ get_or heights (j * x_dimension h + i) 0 → z ≡ step_word s.z_spacing j
      → ◌≡◌ {A = Words3} (record { x = x; y = y; z = z }) (grid_point h s heights (i + j * x_dimension h))
  unfolding grid_point
  point_put i j l ex ey ez =
      let xd = x_dimension h in
      rw (ex, ey, ez, column_of xd i j l, row_of xd i j l, add_comm (j * xd) i) refl

  abbrev pub words_at : ℕ → List ℕ
  words_at k = words3 (grid_point h s heights k)

  pub row_is : (j : ℕ) → flat (tab (λ i. words_at (i + j * x_dimension h)) (x_dimension h) 0) ≡ row_points h s heights j
  unfolding row_points
  row_is j = ap flat (tab_from words_at (j * x_dimension h) (x_dimension h))

  pub row_width : (j : ℕ) → length (row_points h s heights j) ≡ x_dimension h * 3
  unfolding row_points
  row_width j = length_from words_at 3 (λ t. refl) (x_dimension h) (j * x_dimension h)

  pub rows_are : flat (tab (row_points h s heights) (z_dimension h) 0) ≡ grid_points h s heights
  unfolding row_points grid_points
  rows_are = flat_rows_all words_at (x_dimension h) (z_dimension h) ∙ ap (λ (n : ℕ). flat (tab words_at n 0)) (mul_comm (z_dimension h) (x_dimension h))

-- the room of all rows
pub rows_room : (h : Header) (at len : ℕ) → at + 3 * (x_dimension h * z_dimension h) ≤ len → at + z_dimension h * (x_dimension h * 3) ≤ len
rows_room h at len r = omega (arith, r, rows_of (z_dimension h) (x_dimension h) 3, mul_comm (z_dimension h) (x_dimension h))
