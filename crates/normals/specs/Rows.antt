-- FORMAT 10.1, 10.2: the tables that are made: owners, rows of faces, faces by number, sums; and what they say of the faces at a corner.
use Rattle.std.specs.Prelude.{◌≡◌, Bool, true, false, cond, List, map, ℕ, ◌+◌, ◌*◌, ◌≤◌, ◌<◌, eqb, length, get_or, Float}
use Rattle.std.specs.Float.{nan, binary32}
use Rattle.std.specs.Float.Ieee.{of_bits}
use Rattle.math.specs.declared.vector.V3.{V3}
use Rattle.std.specs.Prelude.{Option}
use Rattle.std.specs.Prelude.{Some, None}
use Rattle.math.specs.Vector.{v3, zero_f, unit_of}
use Rattle.block.specs.declared.crease.CreaseRule.{CreaseRule}
use Rattle.block.specs.declared.crease.CreaseRule.TheVariants.{Own, Every, Bound}
use Rattle.mesh.specs.Normals.{facing, Hit, sum_all, or_else}
use Rattle.tables.specs.declared.layout.Plan.{Plan}
use Rattle.lists.specs.Parts.{Kept}
use Rattle.tables.specs.Layout.{Room}
use Rattle.tables.specs.Soups.{gather_in, owner_in, face_in, frame_in, Sound, Spread}
use Rattle.lists.specs.Counts.{uses_from}
use Rattle.normals.specs.Group.{gathers_in, Grouped}

-- three words from a, as a vector
unfoldable pub at3 : List ℕ → ℕ → V3
at3 w a = v3 (of_bits binary32 (get_or w a 0)) (of_bits binary32 (get_or w (a + 1) 0)) (of_bits binary32 (get_or w (a + 2) 0))

-- four words: 0 for no unit vector, or 1 and the vector
unfoldable pub unit_at : List ℕ → ℕ → (Option V3)
unit_at w a = cond (eqb (get_or w a 0) 0) None (Some (at3 w (a + 1)))

-- a face's row of seven words: its facing normal, and its unit vector
unfoldable pub normal_in : List ℕ → Plan → ℕ → V3
normal_in w t g = at3 w (t.rows + 7 * g)

unfoldable pub unit_in : List ℕ → Plan → ℕ → (Option V3)
unit_in w t g = unit_at w (t.rows + 7 * g + 3)

-- FORMAT 10.1: the facing normal of kept face g, by the points and corners in w
unfoldable pub facing_in : List ℕ → Plan → Bool → ℕ → V3
facing_in w t ccw g = facing (frame_in w t ccw Own) (face_in w t g)

-- FORMAT 10.2, generate_normals (incident): face g; the face of corner c; the faces at p, in order, once for each use, by the corners from x on; by all corners
abbrev pub hit_of : List ℕ → Plan → ℕ → Hit
hit_of w t g = record { face = g; normal = normal_in w t g }

unfoldable pub hit_in : List ℕ → Plan → ℕ → Hit
hit_in w t c = hit_of w t (owner_in w t c)

unfoldable pub hits_from : List ℕ → Plan → ℕ → ℕ → List Hit
hits_from w t p x = map (hit_in w t) (uses_from (gathers_in w t) p x)

abbrev pub hits_at : List ℕ → Plan → ℕ → List Hit
hits_at w t p = hits_from w t p 0

-- the corners of the first n faces have their owners, by the words v
abbrev pub OwnedTo : List ℕ → List ℕ → Plan → ℕ → Type 0
OwnedTo v w t n = Spread v w t (λ g. g) n

-- the first n rows are made, from the words v
pub record Rowed (v w : List ℕ) (t : Plan) (ccw : Bool) (n : ℕ) : Type 0 where
  pub normal : (g : ℕ) → g < n → normal_in w t g ≡ facing_in v t ccw g
  pub unit : (g : ℕ) → g < n → unit_in w t g ≡ unit_of (normal_in w t g)

-- from g rows to n: where the first g are made, from whatever words, the first n are
abbrev pub Onward : List ℕ → List ℕ → Plan → Bool → ℕ → ℕ → Type 0
Onward w w' t ccw g n = (v : List ℕ) → Sound v t → Kept t.rows v w → Rowed v w t ccw g → Kept t.rows v w' × Sound w' t × Rowed v w' t ccw n

-- each corner's face is in the table of owners
abbrev pub Owned : List ℕ → Plan → Type 0
Owned w t = OwnedTo w w t t.faces

-- the tables that a corner's normal is read from
pub record Ready (w : List ℕ) (t : Plan) : Type 0 where
  pub room : Room (length w) t
  pub gathers : (c : ℕ) → c < t.count → gather_in w t c < t.spots
  pub grouped : Grouped (gathers_in w t) (owner_in w t) w t.heads t.spots t.nexts
  pub owned : (c : ℕ) → c < t.count → owner_in w t c < t.faces
  pub units : (g : ℕ) → g < t.faces → unit_in w t g ≡ unit_of (normal_in w t g)

-- FORMAT 10.2, generate_normals (every face): the unit vector of the sum at p, and the words that it is kept in
abbrev pub every_at : List ℕ → Plan → ℕ → (Option V3)
every_at w t p = unit_of (sum_all (v3 zero_f zero_f zero_f) (hits_at w t p))

unfoldable pub sum_in : List ℕ → Plan → ℕ → (Option V3)
sum_in w t p = unit_at w (t.sums + 4 * p)

-- of the first n numbers it is kept, by the words v
pub record SummedTo (v w : List ℕ) (t : Plan) (n : ℕ) : Type 0 where
  pub at : (p : ℕ) → p < n → sum_in w t p ≡ every_at v t p

-- three floats from a, as a vector
unfoldable pub vector : List Float → ℕ → V3
vector d a = v3 (get_or d a nan) (get_or d (a + 1) nan) (get_or d (a + 2) nan)

-- in place of no unit vector: no cosine with it is above a bound
abbrev pub no_unit : V3
no_unit = v3 nan nan nan

-- the first n rows once more, six floats each, behind three a corner
pub record Mirrored (d : List Float) (w : List ℕ) (t : Plan) (n : ℕ) : Type 0 where
  pub room : 3 * t.count + 6 * t.faces ≤ length d
  pub normal : (g : ℕ) → g < n → vector d (3 * t.count + 6 * g) ≡ normal_in w t g
  pub unit : (g : ℕ) → g < n → vector d (3 * t.count + 6 * g + 3) ≡ or_else (unit_in w t g) no_unit

-- FORMAT 10.2: whether a corner's sum is that of every face; whether it is that of the faces within the crease angle
unfoldable pub is_every : CreaseRule → Bool
is_every Own = false
is_every Every = true
is_every (Bound b) = false

unfoldable pub is_bound : CreaseRule → Bool
is_bound Own = false
is_bound Every = false
is_bound (Bound b) = true

-- what the rule asks for is there: the sums of all numbers, or the rows as floats
pub record Summed (w : List ℕ) (t : Plan) (rule : CreaseRule) (d : List Float) : Type 0 where
  pub every : is_every rule ≡ true → SummedTo w w t t.spots
  pub bound : is_bound rule ≡ true → Mirrored d w t t.faces

-- owners, rows and faces by number are made, from the words v
pub record Made (v w : List ℕ) (t : Plan) (ccw : Bool) : Type 0 where
  pub kept : Kept t.owners v w
  pub sound : Sound w t
  pub owned : Owned w t
  pub ready : Ready w t
  pub normals : (g : ℕ) → g < t.faces → normal_in w t g ≡ facing_in v t ccw g
