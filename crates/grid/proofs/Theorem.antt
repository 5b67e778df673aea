-- FORMAT 8.3: the grid's faces are those of its listings.
use mathlib.Core.Path.{◌≡◌, refl, sym, ap₂, ◌∙◌}
use mathlib.Core.List.{[], ◌∷◌, map}
use Prim.Native.Nat.{ℕ, ◌+◌, ◌-◌, ◌*◌, ◌/◌, ◌%◌, ◌≤◌, ◌<◌}
use native.Mathlib.Omega.{arith}
use lib.ListN.{length}
use Rattle.lists.proofs.Numbers.{column_of, row_of}
use Rattle.lists.proofs.Tabs.{tab_same, map_tab}
use Rattle.bits.specs.declared.Words4.{Words4}
use Rattle.mesh.specs.FaceSet.{Rest, corner_by}
use Rattle.mesh.specs.Quads.{quad}
use Rattle.mesh.specs.Grid.{x_dimension, z_dimension, grid_default, grid_corner, grid_faces}
use Rattle.mesh.proofs.Shapes.{grid_listed}
use Rattle.tables.specs.Listed.{Listing, faces_with}
use Rattle.grid.specs.Listings.{quad_of, use_of, grid_listing, grid_listings, grid_use}
use Rattle.grid.proofs.Numbers.{column}

-- the use of the point (i, j) makes the grid's corner there
corner_used : (missing : Words4) (G : Rest) (num i j : ℕ) → i < x_dimension G.head → grid_corner missing G num i j ≡ grid_use missing G num (use_of (i + j * x_dimension G.head))
unfolding grid_corner grid_use
corner_used missing G num i j h =
    let xd = x_dimension G.head in
    let p = i + j * xd in
    ap₂ (λ (a b : ℕ). corner_by missing G [] num p p (grid_default G.head a b)) (sym (column_of xd i j h)) (sym (row_of xd i j h))

quad_used : (missing : Words4) (G : Rest) (q : ℕ) → 2 ≤ x_dimension G.head → q < (z_dimension G.head - 1) * (x_dimension G.head - 1)
    → quad (grid_corner missing G q) (q % (x_dimension G.head - 1)) (q / (x_dimension G.head - 1)) ≡ map (grid_use missing G q) (quad_of use_of (x_dimension G.head) q)
unfolding quad
quad_used missing G q h l =
    let xd = x_dimension G.head in
    let i = q % (xd - 1) in
    let j = q / (xd - 1) in
    let m : i + 1 < xd = column xd (z_dimension G.head) q h l in
    let a = corner_used missing G q i j (omega arith) in
    let b = corner_used missing G q i (j + 1) (omega arith) in
    let c = corner_used missing G q (i + 1) (j + 1) m in
    let d = corner_used missing G q (i + 1) j m in
    λ s. a s ∷ b s ∷ c s ∷ d s ∷ []

pub grid_faces_lem : (missing : Words4) (G : Rest) → 2 ≤ x_dimension G.head
    → grid_faces missing G ≡ faces_with (grid_use missing G) (grid_listings (x_dimension G.head) (z_dimension G.head))
unfolding faces_with grid_listings grid_listing
grid_faces_lem missing G h =
    let xd = x_dimension G.head in
    let n = (z_dimension G.head - 1) * (xd - 1) in
    grid_listed missing G h
    ∙ tab_same _ (λ q. map (grid_use missing G q) (quad_of use_of xd q)) n (λ q l. quad_used missing G q h l)
    ∙ sym (map_tab (grid_listing xd) (λ (l : Listing). map (grid_use missing G l.number) l.uses) n 0)

-- ---- what the listings are like

pub four_uses : (xd q : ℕ) → length (grid_listing xd q).uses ≡ 4
unfolding grid_listing quad
four_uses xd q = refl
