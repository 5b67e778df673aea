-- FORMAT 8: the quads of a grid and of an extrusion's sides by number.
use Prim.Native.Nat.{ℕ, ◌-◌, ◌*◌, ◌/◌, ◌%◌, ◌≤◌}
use mathlib.Core.Path.{◌≡◌, ap, ◌∙◌}
use native.Mathlib.Omega.{arith}
use lib.ListN.{length}
use Rattle.bits.specs.declared.Words4.{Words4}
use Rattle.lists.specs.Loops.{tab}
use Rattle.lists.proofs.Tabs.{tab_same}
use Rattle.lists.proofs.Numbers.{div_mod}
use Rattle.mesh.specs.FaceSet.{Rest}
use Rattle.mesh.specs.Quads.{quad}
use Rattle.mesh.specs.Grid.{x_dimension, z_dimension, grid_corner, grid_face, grid_faces}
use Rattle.mesh.specs.Extrusion.{Extrusion, side_corner, sides}
use Rattle.lists.proofs.Rows.{tabs_tab}

pub grid_listed : (missing : Words4) (G : Rest) → 2 ≤ x_dimension G.head
    → grid_faces missing G
    ≡ tab (λ q. quad (grid_corner missing G q) (q % (x_dimension G.head - 1)) (q / (x_dimension G.head - 1)))
    ((z_dimension G.head - 1) * (x_dimension G.head - 1)) 0
unfolding grid_faces grid_face
grid_listed missing G h =
    let w = x_dimension G.head - 1 in
    tabs_tab (grid_face missing G) (z_dimension G.head - 1) w (omega arith)
    ∙ tab_same _ (λ q. quad (grid_corner missing G q) (q % w) (q / w)) ((z_dimension G.head - 1) * w)
    (λ q l. ap (λ (n : ℕ). quad (grid_corner missing G n) (q % w) (q / w)) (div_mod q w))

pub sides_listed : (E : Extrusion) → 2 ≤ length E.section
    → sides E ≡ tab (λ q. quad (side_corner E) (q / (length E.section - 1)) (q % (length E.section - 1))) ((length E.spine - 1) * (length E.section - 1)) 0
unfolding sides
sides_listed E h = tabs_tab (quad (side_corner E)) (length E.spine - 1) (length E.section - 1) (omega arith)
