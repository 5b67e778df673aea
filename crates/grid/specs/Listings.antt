-- FORMAT 8.3, elevation_grid (quad): the quads of a grid as they are listed, and the corner of a use.
use Rattle.std.specs.Prelude.{List, [], ℕ, ◌+◌, ◌-◌, ◌*◌, ◌/◌, ◌%◌, get_or}
use Rattle.bits.specs.declared.Words4.{Words4}
use Rattle.block.specs.declared.header.Header.{Header}
use Rattle.block.specs.declared.settings.Settings.{Settings}
use Rattle.lists.specs.Lists.{flat}
use Rattle.lists.specs.Loops.{tab}
use Rattle.mesh.specs.Words.{words3}
use Rattle.mesh.specs.Soup.{Corner}
use Rattle.mesh.specs.FaceSet.{Rest, corner_by}
use Rattle.mesh.specs.Quads.{quad}
use Rattle.mesh.specs.Grid.{x_dimension, grid_point, grid_default}
use Rattle.tables.specs.Listed.{Use, Listing}

-- FORMAT 8.3, elevation_grid (coords): the points of row j, three words a point
unfoldable pub row_points : Header → Settings → List ℕ → ℕ → List ℕ
row_points h s heights j = flat (tab (λ k. words3 (grid_point h s heights k)) (x_dimension h) (j * x_dimension h))

-- FORMAT 8.3: what there is of quad q of a grid xd points wide, by the number of the point at each of its corners
abbrev pub quad_of : {A : Type 0} → (ℕ → A) → ℕ → ℕ → List A
quad_of f xd q = quad (λ i j. f (i + j * xd)) (q % (xd - 1)) (q / (xd - 1))

-- FORMAT 8.3: the point of corner c, four corners a quad
unfoldable pub corner_point : ℕ → ℕ → ℕ
corner_point xd c = get_or (quad_of (λ p. p) xd (c / 4)) (c % 4) 0

-- FORMAT 8.3: what there is of the corners of the quads of row j, by the point of each
unfoldable pub quad_row : (ℕ → List ℕ) → ℕ → ℕ → List ℕ
quad_row f xd j = flat (tab (λ c. f (corner_point xd c)) ((xd - 1) * 4) (j * ((xd - 1) * 4)))

-- FORMAT 7.1: a point's number serves as its place
abbrev pub use_of : ℕ → Use
use_of p = record { point = p; place = p }

-- FORMAT 8.3: quad q has the number q
unfoldable pub grid_listing : ℕ → ℕ → Listing
grid_listing xd q = record { number = q; uses = quad_of use_of xd q }

-- FORMAT 8.3, elevation_grid (faces): row by row
unfoldable pub grid_listings : ℕ → ℕ → List Listing
grid_listings xd zd = tab (grid_listing xd) ((zd - 1) * (xd - 1)) 0

-- FORMAT 7.1, 8.3: the corner of a use in quad `num`, with the default texture of its point's column and row
unfoldable pub grid_use : Words4 → Rest → ℕ → Use → Corner
grid_use missing G num u =
    let xd = x_dimension G.head in
    corner_by missing G [] num u.place u.point (grid_default G.head (u.point % xd) (u.point / xd))
