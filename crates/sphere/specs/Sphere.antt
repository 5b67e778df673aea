-- FORMAT 17.7, sphere: its vertices row by row, its triangles band by band. ISO/IEC 14772-1, 6.43.
use Rattle.std.specs.Prelude.{ℕ, ◌+◌, ◌*◌, not, cond, List, [], ◌∷◌, ◌++◌, eqb, Float}
use Rattle.std.specs.Float.{binary32}
use Rattle.std.specs.Float.Ieee.{mul, neg}
use Rattle.math.specs.Vector.{v3, one_f, vscale}
use Rattle.lists.specs.Lists.{flat}
use Rattle.lists.specs.Loops.{tab}
use Rattle.parts.specs.declared.vert.Vert.{Vert}
use Rattle.parts.specs.Ring.{sine_at, cosine_at, ring_at, share_of}
use Rattle.parts.specs.Sizes.{dim_of, held_to}
use Rattle.parts.specs.Part.{Part}

-- FORMAT 17.7, sphere (phi, nrm): vertex i of row j, of n slices and k stacks; a row takes the pair of its phi and then one for each vertex
unfoldable pub sphere_vert : Float → ℕ → ℕ → List Float → ℕ → ℕ → Vert
sphere_vert r n k ps j i =
    let phi = j * (n + 2) in
    let q = ring_at ps (phi + 1 + i) in
    let nrm = v3 (mul binary32 q.x (sine_at ps phi)) (neg (cosine_at ps phi)) (mul binary32 q.z (sine_at ps phi)) in
    record { position = vscale nrm r; normal = nrm; st = record { s = share_of i n; t = share_of j k } }

-- FORMAT 17.7: row j
unfoldable pub sphere_row : Float → ℕ → ℕ → List Float → ℕ → List Vert
sphere_row r n k ps j = tab (sphere_vert r n k ps j) (n + 1) 0

-- FORMAT 17.7, sphere (tri): the two triangles between two rows; at a pole one of them is left out
unfoldable pub sphere_quad : ℕ → ℕ → ℕ → ℕ → List ℕ
sphere_quad n k j i =
    let a = j * (n + 1) + i in
    let b = a + 1 in
    let c = a + (n + 1) + 1 in
    let d = a + (n + 1) in
    cond (not (eqb j 0)) (a ∷ b ∷ c ∷ []) [] ++ cond (not (eqb (j + 1) k)) (a ∷ c ∷ d ∷ []) []

-- FORMAT 17.7: those of row j and the next
unfoldable pub sphere_band : ℕ → ℕ → ℕ → List ℕ
sphere_band n k j = flat (tab (sphere_quad n k j) n 0)

-- FORMAT 17.7, sphere: k + 1 rows, k bands
unfoldable pub sphere_part : Float → ℕ → ℕ → List Float → Part
sphere_part r n k ps = record { verts = flat (tab (sphere_row r n k ps) (k + 1) 0); indices = flat (tab (sphere_band n k) k 0); pairs = (k + 1) * (n + 2) }

-- FORMAT 17.2, 17.7: with the size, the slices and the stacks as they are read
unfoldable pub sphere_of : Float → ℕ → ℕ → List Float → Part
sphere_of radius slices stacks ps = sphere_part (dim_of radius one_f) (held_to slices 3) (held_to stacks 2) ps
