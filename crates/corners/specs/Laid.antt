-- FORMAT 4: where the tables of the corners stand while vertices are made.
use Rattle.std.specs.Prelude.{ℕ, ◌+◌, ◌*◌, ◌/◌, ◌≤◌, ◌<◌}
use Rattle.block.specs.Edition.{most}
use Rattle.tables.specs.declared.layout.Plan.{Plan}
use Rattle.vertices.specs.declared.places.Chains.{Chains}
use Rattle.corners.specs.declared.laid.CornerTables.{CornerTables}

-- points, corners, vertex numbers and places where a plan has them; the face numbers where the owners stood, and texture, heads and nexts one after another
-- behind them; a bucket for each three corners and two for each point
unfoldable pub tables_of : Plan → CornerTables
tables_of t =
    let textures = t.owners + t.count in
    let buckets = t.count / 3 + 2 * t.spots + 1 in
    let heads = textures + 2 * t.count in
    record {
      count = t.count;
      points = t.points;
      spots = t.spots;
      corners = t.corners;
      named = t.named;
      places = t.places;
      numbers = t.owners;
      textures = textures;
      buckets = buckets;
      heads = heads;
      nexts = heads + buckets;
    }

-- in len words: points and corners below the vertex numbers; then places, face numbers, texture, heads and nexts
pub record Laid (t : CornerTables) (len : ℕ) : Type 0 where
  pub few : t.count ≤ most
  pub some : t.spots ≤ most
  pub points : t.points + 3 * t.spots ≤ t.named
  pub corners : t.corners + t.count ≤ t.named
  pub named : t.named + t.count ≤ t.places
  pub places : t.places + t.count ≤ t.numbers
  pub numbers : t.numbers + t.count ≤ t.textures
  pub textures : t.textures + 2 * t.count ≤ t.heads
  pub buckets : (0 < t.buckets) × (t.buckets ≤ 4 * most)
  pub heads : t.heads + t.buckets ≤ t.nexts
  pub nexts : t.nexts + t.count ≤ len

-- the chains of vertices
abbrev pub chains_of : CornerTables → Chains
chains_of t = record { points = t.points; spots = t.spots; buckets = t.buckets; heads = t.heads; nexts = t.nexts }
