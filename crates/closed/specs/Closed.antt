-- FORMAT 18: what the triangles made of a block have in common with the outlines of its faces.
use Rattle.std.specs.Prelude.{ℕ, ◌+◌, ◌≡◌, cond, List}
use Rattle.block.specs.Header.{header_of}
use Rattle.mesh.specs.Mesh.{Slices}
use Rattle.closed.specs.Outlines.{outlines}
use Rattle.closed.specs.Edges.{edges_in, steps_in}

-- FORMAT 18: the steps from p to q round the outlines of a block, taken backwards where ccw is off
unfoldable pub outline_steps : List ℕ → ℕ → ℕ → ℕ
outline_steps bs p q =
    let os = outlines bs in
    cond (header_of bs).ccw (steps_in os p q) (steps_in os q p)

-- FORMAT 18: for any two points, the triangles' edges from the first to the second less those back
-- are as many as the outlines' steps from the first to the second less those back
abbrev pub SameBoundary : List ℕ → Slices → Type 0
SameBoundary bs S =
    (p q : ℕ) → edges_in S p q + outline_steps bs q p ≡ edges_in S q p + outline_steps bs p q

-- FORMAT 18: each way as often as the way back
abbrev pub Paired : (ℕ → ℕ → ℕ) → Type 0
Paired count = (p q : ℕ) → count p q ≡ count q p
