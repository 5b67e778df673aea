-- FORMAT 11: one corner gets its vertex and the vertex's number.
use Rattle.std.specs.Prelude.{◌≡◌, List, ℕ, ◌+◌, set}
use Rattle.vertices.specs.declared.places.Widths.{Widths}
use Rattle.vertices.specs.Places.{Store}
use Rattle.vertices.specs.Search.{corner_key}
use Rattle.vertices.specs.Adding.{count_after, Vertexed}
use Rattle.corners.specs.declared.laid.CornerTables.{CornerTables}
use Rattle.corners.specs.Laid.{chains_of}
use Rattle.corners.specs.Corner.{point_at}

-- FORMAT 11, PolyMesh::build (local.push): with n vertices made, the key of corner c, of the words l, gets a number, which leaves the words `table`; the number
-- is then written among the vertex numbers, and there are n' vertices
pub record Numbered (widths : Widths) (t : CornerTables) (n c : ℕ) (l : List ℕ) (s : Store) (m : List ℕ) (s' : Store) (m' : List ℕ) (n' : ℕ) : Type 0 where
  pub number : ℕ
  pub table : List ℕ
  pub vertexed : Vertexed widths (chains_of t) n (corner_key widths (point_at m t c) l) s m s' table number
  pub written : m' ≡ set table (t.named + c) number
  pub count : n' ≡ count_after n number
