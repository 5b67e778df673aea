-- FORMAT 10.3, fix_zero_normals: normals that cannot be scaled are replaced, vertex by vertex; others are scaled where they are visibly off length 1.
use Rattle.std.specs.Prelude.{◌||◌, cond, List, [], ◌∷◌, ℕ, T, eqb, get_or, Float}
use Rattle.std.specs.Float.{binary32}
use Rattle.std.specs.Float.Ieee.{of_bits, sub, lt}
use Rattle.bits.specs.declared.Words3.{Words3}
use Rattle.math.specs.declared.vector.V3.{V3}
use Rattle.std.specs.Prelude.{Option}
use Rattle.std.specs.Prelude.{Some, None}
use Rattle.math.specs.Vector.{one_f, y_axis, vsub, vcross, vlen, usable, unit_of}
use Rattle.math.specs.Order.{magnitude}
use Rattle.polygon.specs.Points.{spot}
use Rattle.mesh.specs.Words.{floats, bits}
use Rattle.mesh.specs.Soup.{Frame}
use Rattle.mesh.specs.Normals.{or_else}
use Rattle.mesh.specs.Vertices.{Key, no_key}

-- FORMAT 9.3: the length is finite and above 1e-20
abbrev pub Usable : Words3 → Type 0
Usable n = T (usable (vlen (floats n)))

-- FORMAT 10.3: 1e-5
abbrev pub visible : Float
visible = of_bits binary32 0x3727_c5ac

-- FORMAT 10.3, unwrap_or
unfoldable pub or_words : (Option V3) → Words3 → Words3
or_words (Some u) other = bits u
or_words None other = other

-- FORMAT 10.3, fix_zero_normals (renorm)
unfoldable pub renorm : Words3 → Words3
renorm n =
    let scaled = or_words (unit_of (floats n)) n in
    cond (lt visible (magnitude (sub binary32 (vlen (floats n)) one_f))) scaled n

-- FORMAT 10.3: where vertex v lies
unfoldable pub vertex_spot : Frame → List Key → ℕ → V3
vertex_spot F vs v = spot F.points (get_or vs v no_key).point

-- FORMAT 10.3, fix_zero_normals (fn_)
unfoldable pub tri_normal : V3 → V3 → V3 → (Option V3)
tri_normal a b c = unit_of (vcross (vsub b a) (vsub c a))

-- FORMAT 10.3, fix_zero_normals (face_n): the normal of the first triangle that has one and uses vertex v, else (0, 1, 0)
unfoldable pub first_normal : Frame → List Key → ℕ → List ℕ → V3
first_normal F vs v [] = y_axis
first_normal F vs v (a ∷ []) = y_axis
first_normal F vs v (a ∷ b ∷ []) = y_axis
first_normal F vs v (a ∷ b ∷ c ∷ is) =
    let rest = first_normal F vs v is in
    let here = or_else (tri_normal (vertex_spot F vs a) (vertex_spot F vs b) (vertex_spot F vs c)) rest in
    cond (eqb a v || (eqb b v || eqb c v)) here rest

-- FORMAT 10.3, fix_zero_normals: a normal that can be scaled stays or is scaled, any other is replaced
unfoldable pub mend_by : (Option V3) → Words3 → V3 → Words3
mend_by (Some u) n other = renorm n
mend_by None n other = bits other

-- FORMAT 10.3, fix_zero_normals: the normal of vertex v, whose key is k, in a mesh of these vertices and indices
unfoldable pub mended : Frame → List Key → List ℕ → ℕ → Key → Words3
mended F vs is v k = mend_by (unit_of (floats k.normal)) k.normal (first_normal F vs v is)
