-- FORMAT 8.3, 8.4: the four corners of a quad.
use Rattle.std.specs.Prelude.{ℕ, ◌+◌, List, [], ◌∷◌}

module _ {A : Type 0} where
  -- FORMAT 8.3, 8.4, elevation_grid and extrusion (corners): (i, j), (i, j + 1), (i + 1, j + 1), (i + 1, j)
  unfoldable pub quad : (ℕ → ℕ → A) → ℕ → ℕ → List A
  quad f i j = f i j ∷ f i (j + 1) ∷ f (i + 1) (j + 1) ∷ f (i + 1) j ∷ []
