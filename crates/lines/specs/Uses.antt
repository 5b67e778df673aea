-- FORMAT 6.3, 7.1: the entries that name a point as the corners of a line set, and what it means that the tables hold them.
use Rattle.std.specs.Prelude.{◌≡◌, cond, List, [], ◌∷◌, ℕ, suc, ◌+◌, ◌<◌, ltb, get_or, set, Option, None, Some}
use Rattle.block.specs.Runs.{Run, runs}
use Rattle.lists.specs.Lists.{map_n, join_n}
use Rattle.mesh.specs.Lines.{somes}
use Rattle.lists.specs.Parts.{Kept}
use Rattle.corners.specs.declared.laid.CornerTables.{CornerTables}
use Rattle.corners.specs.Corner.{point_at, place_at, number_at}

-- FORMAT 7.1: a corner's point, its place in coordIndex, and the number of its line
pub record LineUse : Type 0 where
  pub point : ℕ
  pub place : ℕ
  pub number : ℕ

-- read beyond the last, which never happens
abbrev pub no_use : LineUse
no_use = record { point = 0; place = 0; number = 0 }

-- FORMAT 6.3, indexed_line_set (key): entry e at place k of line `num`: none where it names none of p points
unfoldable pub use_of : ℕ → ℕ → ℕ → ℕ → Option LineUse
use_of p num k e = let u : LineUse = record { point = e; place = k; number = num } in cond (ltb e p) (Some u) None

-- FORMAT 6.3, indexed_line_set (run): the corners of run r, which is line `num`
unfoldable pub run_uses : ℕ → ℕ → Run → List LineUse
run_uses p num r = somes (map_n (use_of p num) r.start r.items)

-- FORMAT 6.3, indexed_line_set (split_runs, line_no): the corners, run by run; line numbers count every run
unfoldable pub line_uses : ℕ → List ℕ → List LineUse
line_uses p es = join_n (run_uses p) 0 (runs es)

-- the words w with corner c listed in the three tables
unfoldable pub listed_at : CornerTables → List ℕ → ℕ → LineUse → List ℕ
listed_at t w c u = set (set (set w (t.corners + c) u.point) (t.places + c) u.place) (t.numbers + c) u.number

-- with the corners us listed, the first as number c
unfoldable pub listed : CornerTables → List ℕ → ℕ → List LineUse → List ℕ
listed t w c [] = w
listed t w c (u ∷ us) = listed t (listed_at t w c u) (suc c) us

-- the tables have the corners of the entries es, which name points; what stands below the corners is kept
pub record Listed (p : ℕ) (es : List ℕ) (t : CornerTables) (w w' : List ℕ) : Type 0 where
  pub kept : Kept t.corners w w'
  pub points : (c : ℕ) → c < t.count → point_at w' t c ≡ (get_or (line_uses p es) c no_use).point
  pub places : (c : ℕ) → c < t.count → place_at w' t c ≡ (get_or (line_uses p es) c no_use).place
  pub numbers : (c : ℕ) → c < t.count → number_at w' t c ≡ (get_or (line_uses p es) c no_use).number
  pub within : (c : ℕ) → c < t.count → point_at w' t c < t.spots
