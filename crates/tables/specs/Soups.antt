-- FORMAT 8: the tables read by place, the soup that they hold, and what it means that they hold one.
use Rattle.std.specs.Prelude.{◌≡◌, Bool, true, false, List, map, ℕ, suc, ◌+◌, ◌*◌, ◌-◌, ◌≤◌, ◌<◌, length, get_or}
use Rattle.block.specs.declared.crease.CreaseRule.{CreaseRule}
use Rattle.lists.specs.Loops.{tab}
use Rattle.mesh.specs.Words.{no2, no3, no4}
use Rattle.mesh.specs.Soup.{Corner, gathered, Face, dense, Frame}
use Rattle.tables.specs.declared.layout.Plan.{Plan}
use Rattle.tables.specs.declared.reading.Stretch.{Stretch}
use Rattle.lists.specs.Parts.{seg}
use Rattle.tables.specs.Layout.{Room}

-- a corner's point, the number that it is gathered by (FORMAT 10.2), and its face among the kept ones
unfoldable pub point_in : List ℕ → Plan → ℕ → ℕ
point_in w t c = get_or w (t.corners + c) 0

unfoldable pub gather_in : List ℕ → Plan → ℕ → ℕ
gather_in w t c = gathered t.ring (point_in w t c)

unfoldable pub owner_in : List ℕ → Plan → ℕ → ℕ
owner_in w t c = get_or w (t.owners + c) 0

-- a kept face's first corner, and its number (FORMAT 6.2)
unfoldable pub start_in : List ℕ → Plan → ℕ → ℕ
start_in w t g = get_or w (t.starts + g) 0

unfoldable pub number_in : List ℕ → Plan → ℕ → ℕ
number_in w t g = get_or w (t.numbers + g) 0

-- a corner's place in coordIndex (of a grid, its point), and its vertex number (FORMAT 7.1, 11)
unfoldable pub place_in : List ℕ → Plan → ℕ → ℕ
place_in w t c = get_or w (t.places + c) 0

unfoldable pub named_in : List ℕ → Plan → ℕ → ℕ
named_in w t c = get_or w (t.named + c) 0

-- the words of the points, three a point
unfoldable pub points_in : List ℕ → Plan → List ℕ
points_in w t = seg w t.points (3 * t.spots)

-- a corner without its attributes
abbrev pub plain : ℕ → ℕ → Corner
plain p g = record { point = p; gather = g; given = no3; colour = no4; texture = no2 }

abbrev pub bare : Corner → Corner
bare c = plain c.point c.gather

-- corner c; the corners of kept face g; the kept faces
unfoldable pub corner_in : List ℕ → Plan → ℕ → Corner
corner_in w t c = plain (point_in w t c) (gather_in w t c)

unfoldable pub face_in : List ℕ → Plan → ℕ → Face
face_in w t g = tab (corner_in w t) (start_in w t (suc g) - start_in w t g) (start_in w t g)

unfoldable pub soup_in : List ℕ → Plan → List Face
soup_in w t = tab (face_in w t) t.faces 0

-- what the faces share, as far as generated normals go
unfoldable pub frame_in : List ℕ → Plan → Bool → CreaseRule → Frame
frame_in w t ccw rule = record { points = points_in w t; ccw = ccw; convex = true; supplied = false; crease = rule }

-- the corners' points and what they are gathered by are points; the first corners rise to the number of corners
pub record Sound (w : List ℕ) (t : Plan) : Type 0 where
  pub room : Room (length w) t
  pub points : (c : ℕ) → c < t.count → point_in w t c < t.spots
  pub gathers : (c : ℕ) → c < t.count → gather_in w t c < t.spots
  pub first : start_in w t 0 ≡ 0
  pub rises : (g : ℕ) → g < t.faces → start_in w t g ≤ start_in w t (suc g)
  pub last : start_in w t t.faces ≡ t.count

-- r is the corners of face g
pub record Ends (w : List ℕ) (t : Plan) (g : ℕ) (r : Stretch) : Type 0 where
  pub from : r.from.0 ≡ start_in w t g
  pub to : r.to.0 ≡ start_in w t (suc g)
  pub order : r.from.0 ≤ r.to.0
  pub within : r.to.0 ≤ t.count

-- the tables hold the points of the frame, and of the faces, none of which is empty, the corners' points and what they are gathered by
pub record Holds (w : List ℕ) (t : Plan) (F : Frame) (fs : List Face) : Type 0 where
  pub sound : Sound w t
  pub points : points_in w t ≡ F.points
  pub full : dense fs ≡ fs
  pub faces : map (map bare) fs ≡ soup_in w t

-- the corners of the first n faces have, in the table of owners, f of their face; the first corners are those of the words v
pub record Spread (v w : List ℕ) (t : Plan) (f : ℕ → ℕ) (n : ℕ) : Type 0 where
  pub at : (g c : ℕ) → g < n → start_in v t g ≤ c → c < start_in v t (suc g) → owner_in w t c ≡ f g
