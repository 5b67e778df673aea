-- FORMAT 6.1, 6.2: a pass over the runs of coordIndex that lists the kept ones.
use Rattle.std.specs.Prelude.{◌≡◌, true, List, ℕ, ◌+◌, ◌/◌, ◌≤◌, ◌<◌, length, drop}
use Rattle.bits.specs.Bits.{entries}
use Rattle.block.specs.Edition.{most}
use Rattle.block.specs.Runs.{Run, runs, kept, faces, corners, sum_over}
use Rattle.lists.specs.Lists.{join_n}
use Rattle.tables.specs.declared.layout.Plan.{Plan}
use Rattle.tables.specs.Layout.{Room}
use Rattle.tables.specs.Listed.{Beside, Listed}
use Rattle.faceset.specs.declared.listing.Progress.{Progress}
use Rattle.faceset.specs.Listings.{listed, listings_of}
use Rattle.faceset.specs.Adding.{ListedTo}

-- the plan is that of the kept faces of coordIndex, whose bytes are bs, in len words (FORMAT 3, 4: no list has more entries than the limit)
pub record Planned (points : ℕ) (bs : List ℕ) (len : ℕ) (t : Plan) : Type 0 where
  pub room : Room len t
  pub spots : t.spots ≡ points
  pub faces : t.faces ≡ sum_over (faces points) (runs (entries bs))
  pub count : t.count ≡ sum_over (corners points) (runs (entries bs))
  pub few : length bs / 4 ≤ most

-- run r, at entry s, can be put as the next face, if it is kept
pub record RunFits (points len : ℕ) (t : Plan) (s : ℕ) (r : List ℕ) (number : ℕ) (p : Progress) : Type 0 where
  pub room : Room len t
  pub spots : t.spots ≡ points
  pub places : s + length r / 4 ≤ most
  pub few : number ≤ most
  pub face : kept points (entries r) ≡ true → p.faces < t.faces
  pub corners : kept points (entries r) ≡ true → p.corner.0 + length r / 4 ≤ t.count

-- `number` runs are passed: what they give is listed, and what is left is given by the runs rs
pub record Underway (points : ℕ) (bs w : List ℕ) (t : Plan) (number : ℕ) (p : Progress) (rs : List Run) : Type 0 where
  pub faces : p.faces + sum_over (faces points) rs ≡ t.faces
  pub corners : p.corner.0 + sum_over (corners points) rs ≡ t.count
  pub left : drop p.faces (listings_of points (entries bs)) ≡ join_n (listed points) number rs
  pub made : ListedTo w t (listings_of points (entries bs)) p.faces p.corner.0

-- all runs
pub record FacesListed (points : ℕ) (bs : List ℕ) (t : Plan) (w w' : List ℕ) : Type 0 where
  pub listed : Listed w' t (listings_of points (entries bs))
  pub beside : Beside t w w'
