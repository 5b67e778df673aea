-- FORMAT 19.4: what a pass carries, the rays by coordinate and the answers so far. For the proofs.
use Rattle.std.specs.Prelude.{ℕ, ◌+◌, ◌<◌, ◌≡◌, Bool, ◌&&◌, cond, List, [], eqb, ltb, Float, get_or, set}
use Rattle.std.specs.Float.{nan}
use Rattle.std.specs.Int.{from_bool}
use Rattle.lists.specs.Updates.{updated}
use Rattle.lists.specs.Loops.{run, first}
use Rattle.math.specs.declared.vector.V3.{V3}
use Rattle.math.specs.Vector.{v3}
use Rattle.paths.specs.declared.intersect.Ray.{Ray}
use Rattle.paths.specs.declared.intersect.Triangle.{Triangle}
use Rattle.paths.specs.Intersect.{hits}
use Rattle.paths.specs.Paths.{ray_in, triangle_in}

-- the vector at place k: its coordinates are 64 places apart
unfoldable pub spot_at : List Float → ℕ → V3
spot_at l k = v3 (get_or l k nan) (get_or l (k + 64) nan) (get_or l (k + 128) nan)

-- v put there
abbrev pub stored : List Float → ℕ → V3 → List Float
stored l k v = set (set (set l k v.x) (k + 64) v.y) (k + 128) v.z

-- the ray of path j
unfoldable pub ray_at : List Float → ℕ → Ray
ray_at l j = record { orig = spot_at l j; dir = spot_at l (j + 192) }

-- the rays of the first m paths are there
unfoldable pub Loaded : List ℕ → List Float → ℕ → Type 0
Loaded paths rays m = (j : ℕ) → j < m → ray_at rays j ≡ ray_in paths j

-- the answer after a triangle
unfoldable pub next_answer : Bool → ℕ → ℕ → ℕ
next_answer hit number answer = cond (hit && eqb answer 0) number answer

-- that of path j
unfoldable pub step_at : List Float → Triangle → ℕ → ℕ → ℕ → ℕ
step_at rays tri number j answer = next_answer (hits (ray_at rays j) tri) number answer

-- triangle t of the mesh for the first m paths
unfoldable pub turn_of : List ℕ → List ℕ → List Float → ℕ → ℕ → List ℕ → List ℕ
turn_of positions indices rays m t l =
    updated (step_at rays (triangle_in positions indices t) (t + 1)) m l

-- how many of the first m rays hit a triangle
unfoldable pub hit_count : List Float → Triangle → ℕ → ℕ
hit_count rays tri m = run (λ (j s : ℕ). s + from_bool (hits (ray_at rays j) tri)) m 0 0

-- whether one of the first m answers is 0
unfoldable pub any_clear : List ℕ → ℕ → Bool
any_clear l m = ltb (first (λ (j : ℕ). eqb (get_or l j 0) 0) m 0) m
