-- FORMAT 4, 8: where the tables stand.
use Rattle.std.specs.Prelude.{ℕ, ◌+◌, ◌*◌, ◌≤◌}
use Rattle.block.specs.Edition.{most}
use Rattle.tables.specs.declared.layout.Plan.{Plan}

-- points 3P, corners C, first corners F + 1, vertex numbers C, places C, face numbers F, owners C, rows 7F, heads P, nexts C;
-- and sums 4P, four words for each number that corners are gathered by, for what a crease rule makes once for all corners of one number;
-- before that, what each point's corners are gathered by stands there while the faces are grouped.
-- Points stand in rings of `ring` (FORMAT 10.2), or in none
unfoldable pub plan_of : ℕ → ℕ → ℕ → ℕ → Plan
plan_of spots count faces ring =
    let corners = 3 * spots in
    let starts = corners + count in
    let named = starts + faces + 1 in
    let places = named + count in
    let numbers = places + count in
    let owners = numbers + faces in
    let rows = owners + count in
    let heads = rows + 7 * faces in
    let nexts = heads + spots in
    record {
      spots = spots;
      count = count;
      faces = faces;
      ring = ring;
      points = 0;
      corners = corners;
      starts = starts;
      named = named;
      places = places;
      numbers = numbers;
      owners = owners;
      rows = rows;
      heads = heads;
      nexts = nexts;
      sums = nexts + count;
    }

-- the tables stand one after another in len words
pub record Room (len : ℕ) (t : Plan) : Type 0 where
  pub few : t.count ≤ most
  pub many : t.faces ≤ most
  pub some : t.spots ≤ most
  pub points : t.points + 3 * t.spots ≤ t.corners
  pub corners : t.corners + t.count ≤ t.starts
  pub starts : t.starts + (t.faces + 1) ≤ t.named
  pub named : t.named + t.count ≤ t.places
  pub places : t.places + t.count ≤ t.numbers
  pub numbers : t.numbers + t.faces ≤ t.owners
  pub owners : t.owners + t.count ≤ t.rows
  pub rows : t.rows + 7 * t.faces ≤ t.heads
  pub heads : t.heads + t.spots ≤ t.nexts
  pub nexts : t.nexts + t.count ≤ t.sums
  pub sums : t.sums + 4 * t.spots ≤ len
