-- FORMAT 6.4: a pass over the stretches of coordIndex, and over the primitives of each, that lists the kept ones.
use Rattle.std.specs.Prelude.{◌≡◌, true, List, ℕ, ◌+◌, ◌*◌, ◌/◌, ◌≤◌, ◌<◌, length, drop}
use Rattle.bits.specs.Bits.{entries}
use Rattle.block.specs.Edition.{most}
use Rattle.block.specs.declared.topology.Topology.{Topology}
use Rattle.lists.specs.Lists.{all_below}
use Rattle.primitives.specs.Primitives.{primitive_count, primitive_of}
use Rattle.primitives.specs.Kept.{width_of, kept_over, kept_primitives}
use Rattle.primitives.specs.Stretches.{stretches_left}
use Rattle.tables.specs.declared.layout.Plan.{Plan}
use Rattle.tables.specs.Layout.{Room}
use Rattle.tables.specs.Listed.{Use, Beside, Listed}
use Rattle.faceset.specs.Adding.{ListedTo}
use Rattle.faceset.specs.declared.listing.Progress.{Progress}
use Rattle.primitiveset.specs.Listings.{uses_of, primitive_uses, primitive_listings}

-- the plan is that of the kept primitives of coordIndex, whose bytes are bs, in len words (FORMAT 3, 4: no list has more entries than the limit)
pub record Planned (points : ℕ) (g : Topology) (bs : List ℕ) (len : ℕ) (t : Plan) : Type 0 where
  pub room : Room len t
  pub spots : t.spots ≡ points
  pub faces : t.faces ≡ length (kept_primitives points g (entries bs))
  pub count : t.count ≡ width_of g * length (kept_primitives points g (entries bs))
  pub few : length bs / 4 ≤ most

-- primitive k of a stretch at entry s with the entries es can be put as the next face, if it is kept
pub record Fits (points : ℕ) (g : Topology) (len : ℕ) (t : Plan) (s : ℕ) (es : List ℕ) (k : ℕ) (p : Progress) : Type 0 where
  pub room : Room len t
  pub spots : t.spots ≡ points
  pub there : k < primitive_count g (length es)
  pub places : s + length es ≤ most
  pub face : all_below points (primitive_of g es k) ≡ true → p.faces < t.faces
  pub corners : all_below points (primitive_of g es k) ≡ true → p.corner.0 + width_of g ≤ t.count

-- the faces before p are listed, and what is left is rest
pub record Underway (points : ℕ) (g : Topology) (ws w : List ℕ) (t : Plan) (p : Progress) (rest : List (List Use)) : Type 0 where
  pub faces : p.faces ≤ t.faces
  pub corners : p.corner.0 ≡ width_of g * p.faces
  pub left : drop p.faces (primitive_uses points g ws) ≡ rest
  pub made : ListedTo w t (primitive_listings points g ws) p.faces p.corner.0

-- what the stretches from entry s on give
abbrev pub uses_from : ℕ → Topology → List ℕ → ℕ → List (List Use)
uses_from points g ws s = kept_over (uses_of g) points g (stretches_left g ws s)

-- the stretches before entry s are passed
abbrev pub Passed : ℕ → Topology → List ℕ → List ℕ → Plan → ℕ → Progress → Type 0
Passed points g bs w t s p = Underway points g (entries bs) w t p (uses_from points g (entries bs) s)

-- one stretch more, after which the next starts at entry n
pub record Turned (points : ℕ) (g : Topology) (bs w w' : List ℕ) (t : Plan) (n : ℕ) (p : Progress) : Type 0 where
  pub beside : Beside t w w'
  pub passed : Passed points g bs w' t n p

-- all stretches
pub record PrimitivesListed (points : ℕ) (g : Topology) (bs : List ℕ) (t : Plan) (w w' : List ℕ) : Type 0 where
  pub listed : Listed w' t (primitive_listings points g (entries bs))
  pub beside : Beside t w w'
