-- FORMAT 19: which triangle of a mesh blocks a path, the answers of a call, and what is refused.
use Rattle.std.specs.Prelude.{ℕ, ◌+◌, ◌*◌, ◌/◌, ◌%◌, ◌<◌, ◌≡◌, Bool, not, ◌||◌, cond, List, eqb, leb, ltb, length, get_or, take, drop, Result, Ok, Err, ⊤}
use Rattle.math.specs.declared.vector.V3.{V3}
use Rattle.math.specs.Vector.{vsub}
use Rattle.lists.specs.Loops.{any, tab, first}
use Rattle.mesh.specs.Words.{floats, point_words}
use Rattle.mesh.specs.Mesh.{over}
use Rattle.paths.specs.declared.answer.PathsRefusal.{PathsRefusal}
use Rattle.paths.specs.declared.intersect.Ray.{Ray}
use Rattle.paths.specs.declared.intersect.Triangle.{Triangle}
use Rattle.paths.specs.Intersect.{hits}

-- ---- words

-- FORMAT 9.1, 18.1: point p, of three words a point
unfoldable pub point_in : List ℕ → ℕ → V3
point_in words p = floats (point_words words p)

-- FORMAT 19.1: how many paths there are, of two points each
abbrev pub paths_in : List ℕ → ℕ
paths_in paths = length paths / 6

-- FORMAT 19.1: the words of path j
abbrev pub path_words : List ℕ → ℕ → List ℕ
path_words paths j = take 6 (drop (j * 6) paths)

-- FORMAT 19.2: path j, from its first point along second less first
unfoldable pub ray_in : List ℕ → ℕ → Ray
ray_in paths j =
    let from = point_in paths (2 * j) in
    record { orig = from; dir = vsub (point_in paths (2 * j + 1)) from }

-- FORMAT 19.1, 18.2: triangle t, the vertices that three indices name
unfoldable pub triangle_in : List ℕ → List ℕ → ℕ → Triangle
triangle_in positions indices t =
    let vert0 = point_in positions (get_or indices (t * 3) 0) in
    let vert1 = point_in positions (get_or indices (t * 3 + 1) 0) in
    let vert2 = point_in positions (get_or indices (t * 3 + 2) 0) in
    record { vert0 = vert0; edge1 = vsub vert1 vert0; edge2 = vsub vert2 vert0 }

-- ---- the answers

-- FORMAT 19.2: whether triangle t blocks a path
unfoldable pub blocks : List ℕ → List ℕ → Ray → ℕ → Bool
blocks positions indices ray t = hits ray (triangle_in positions indices t)

-- FORMAT 19.4: of n triangles the lowest that passes the test, plus 1; 0 where none does
unfoldable pub lowest : (ℕ → Bool) → ℕ → ℕ
lowest test n = let t = first test n 0 in cond (ltb t n) (t + 1) 0

-- FORMAT 19.4: what a path gets
unfoldable pub answer_of : List ℕ → List ℕ → Ray → ℕ
answer_of positions indices ray = lowest (blocks positions indices ray) (length indices / 3)

-- FORMAT 19.4: what the paths get
unfoldable pub answers_of : List ℕ → List ℕ → List ℕ → List ℕ
answers_of positions indices paths =
    tab (λ j. answer_of positions indices (ray_in paths j)) (paths_in paths) 0

-- ---- the refusal

-- FORMAT 19.3: a last path that is not full, more than 64 paths, fewer answers than paths, a last
-- position that is not full, indices that three does not divide, an index beyond the vertices
unfoldable pub is_refused : List ℕ → List ℕ → List ℕ → ℕ → Bool
is_refused positions indices paths room =
    not (eqb (length paths % 6) 0)
    || (ltb 64 (paths_in paths)
    || (ltb room (paths_in paths)
    || (not (eqb (length positions % 3) 0)
    || (not (eqb (length indices % 3) 0)
    || any (leb (length positions / 3)) indices))))

-- FORMAT 19.3: the number of the refusal
abbrev pub refusal_number : ℕ
refusal_number = 12

-- FORMAT 19.3: an answer, and its number
abbrev pub PathsAnswer : Type 0
PathsAnswer = Result ⊤ PathsRefusal

abbrev pub number_of : PathsAnswer → ℕ
number_of (Err refusal) = refusal_number
number_of (Ok tested) = 0

-- FORMAT 19.3: the number that is to be answered
unfoldable pub paths_number : List ℕ → List ℕ → List ℕ → ℕ → ℕ
paths_number positions indices paths room = cond (is_refused positions indices paths room) 12 0

-- FORMAT 19.3, 18.4: the answer slice after the call, which held `held`
unfoldable pub answers_after : List ℕ → List ℕ → List ℕ → List ℕ → List ℕ
answers_after positions indices paths held =
    cond (is_refused positions indices paths (length held)) held
    (over (answers_of positions indices paths) held)

-- FORMAT 19: what a call promises: the answer slice held `held`, has `left`, and r is answered
pub record PathsCall (positions indices paths held left : List ℕ) (r : PathsAnswer) : Type 0 where
  pub number : number_of r ≡ paths_number positions indices paths (length held)
  pub answers : left ≡ answers_after positions indices paths held

-- FORMAT 19.4: path i of `paths` is path `to i` of `others`, which are as many
pub record Relabelled (to : ℕ → ℕ) (paths others : List ℕ) : Type 0 where
  pub size : length others ≡ length paths
  pub below : (i : ℕ) → i < paths_in paths → to i < paths_in paths
  pub same : (i : ℕ) → i < paths_in paths → path_words paths i ≡ path_words others (to i)
