-- FORMAT 10.3, fix_zero_normals: what is lent to it, as a mesh; and how the first usable triangle of each vertex is held in a table.
use Rattle.std.specs.Prelude.{◌≡◌, Bool, true, ◌&&◌, List, [], map, ℕ, ◌+◌, ◌*◌, ◌≤◌, ◌<◌, leb, ltb, length, get_or, set}
use Rattle.math.specs.declared.vector.V3.{V3}
use Rattle.std.specs.Prelude.{Option}
use Rattle.std.specs.Prelude.{Some, None}
use Rattle.bits.specs.declared.Words3.{Words3}
use Rattle.math.specs.Vector.{y_axis, unit_of}
use Rattle.lists.specs.Loops.{tab}
use Rattle.block.specs.declared.crease.CreaseRule.TheVariants.{Own}
use Rattle.lists.specs.Lists.{flat}
use Rattle.lists.specs.Parts.{spliced}
use Rattle.lists.specs.Named.{named_by}
use Rattle.mesh.specs.Words.{words3, floats, point_words, no2, no4}
use Rattle.mesh.specs.Soup.{Frame}
use Rattle.mesh.specs.Normals.{or_else}
use Rattle.mesh.specs.Vertices.{Key}
use Rattle.mesh.specs.Mend.{vertex_spot, tri_normal, first_normal, mend_by}
use Rattle.mesh.specs.Mesh.{mesh_of}

-- FORMAT 10.3: the points are the positions lent, so that vertex v lies at point v
abbrev pub lent_frame : List ℕ → Frame
lent_frame positions = record { points = positions; ccw = true; convex = true; supplied = true; crease = Own }

-- FORMAT 10.3: vertex v, with the normal that is lent
unfoldable pub lent_key : List ℕ → ℕ → Key
lent_key normals v = record { point = v; normal = point_words normals v; colour = no4; texture = no2 }

-- FORMAT 10.3: the vertices
unfoldable pub lent_keys : List ℕ → ℕ → List Key
lent_keys normals count = tab (lent_key normals) count 0

-- FORMAT 10.3, fix_zero_normals: the words of the normals of the mesh so lent
unfoldable pub mended_words : List ℕ → List ℕ → List ℕ → ℕ → List ℕ
mended_words positions indices normals count = flat (map words3 (mesh_of (lent_frame positions) (lent_keys normals count) indices).normals)

-- ---- the table: at v 0, or one more than the number of the first triangle that has a usable normal and uses vertex v

-- FORMAT 10.3, fix_zero_normals (fn_): of triangle n
unfoldable pub triangle_normal : Frame → List Key → List ℕ → ℕ → (Option V3)
triangle_normal F vs is n =
    tri_normal (vertex_spot F vs (get_or is (n * 3 + 0) 0)) (vertex_spot F vs (get_or is (n * 3 + 1) 0)) (vertex_spot F vs (get_or is (n * 3 + 2) 0))

-- FORMAT 10.3: the normal of the triangle that is named; `rest` where none is yet
abbrev pub found : Frame → List Key → List ℕ → Option ℕ → V3 → V3
found F vs is None rest = rest
found F vs is (Some n) rest = or_else (triangle_normal F vs is n) y_axis

-- FORMAT 10.3, fix_zero_normals (is_none): the first is kept
abbrev pub marked_by : Option ℕ → List ℕ → ℕ → ℕ → List ℕ
marked_by None t v n = set t v (n + 1)
marked_by (Some m) t v n = t

unfoldable pub marked : List ℕ → ℕ → ℕ → List ℕ
marked t v n = marked_by (named_by (get_or t v 0)) t v n

-- FORMAT 10.3: the corners of triangle n
unfoldable pub marked_all : List ℕ → List ℕ → ℕ → List ℕ
marked_all is t n = marked (marked (marked t (get_or is (n * 3 + 0) 0) n) (get_or is (n * 3 + 1) 0) n) (get_or is (n * 3 + 2) 0) n

-- FORMAT 10.3: only a triangle that has a normal counts
abbrev pub noted_by : (Option V3) → List ℕ → List ℕ → ℕ → List ℕ
noted_by (Some u) is t n = marked_all is t n
noted_by None is t n = t

-- FORMAT 10.3: triangle n is met
unfoldable pub noted : Frame → List Key → List ℕ → List ℕ → ℕ → List ℕ
noted F vs is t n = noted_by (triangle_normal F vs is n) is t n

-- FORMAT 10.3: all triangles are met
unfoldable pub Firsts : Frame → List Key → List ℕ → List ℕ → Type 0
Firsts F vs is t = (v : ℕ) → v < length t → found F vs is (named_by (get_or t v 0)) y_axis ≡ first_normal F vs v is

-- FORMAT 10.3: where the table is made, it has the first usable triangle of each vertex
unfoldable pub Served : Bool → List ℕ → List ℕ → ℕ → List ℕ → Type 0
Served made positions is count t = made ≡ true → Firsts (lent_frame positions) (lent_keys [] count) is t

-- FORMAT 10.3: there is room for the normals and the table of so many vertices
abbrev pub Roomy : ℕ → List ℕ → List ℕ → Type 0
Roomy count normals t = (3 * count ≤ length normals) × (count ≤ length t)

-- FORMAT 10.3: the mended normal of vertex v, by the normals lent
unfoldable pub mended_at : List ℕ → List ℕ → ℕ → List ℕ → ℕ → Words3
mended_at positions is count normals v =
    let w = point_words normals v in
    mend_by (unit_of (floats w)) w (first_normal (lent_frame positions) (lent_keys [] count) v is)

-- FORMAT 10.3: the normals of the n vertices from v on are mended, and all else is as it was
pub record Mends (positions is : List ℕ) (count v n : ℕ) (normals normals' : List ℕ) : Type 0 where
  pub put : normals' ≡ spliced normals (v * 3) (flat (tab (λ u. words3 (mended_at positions is count normals u)) n v))

-- FORMAT 10.3: the bits of the square of a length that is 1 but for some roundings: a normal of that length is kept, which is seen without a root
unfoldable pub near_one : ℕ → Bool
near_one b = leb 0x3f7f_ffc0 b && ltb b 0x3f80_0021
