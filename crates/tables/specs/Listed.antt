-- FORMAT 6.2, 8: the kept faces as they are listed: each face's number and its corners' points and places; and what it means that the tables hold them.
use Rattle.std.specs.Prelude.{◌≡◌, List, [], map, ℕ, suc, ◌+◌, ◌<◌, length, get_or}
use Rattle.lists.specs.Parts.{Out}
use Rattle.mesh.specs.Soup.{Corner, Face}
use Rattle.tables.specs.declared.layout.Plan.{Plan}
use Rattle.tables.specs.Layout.{Room}
use Rattle.tables.specs.Soups.{point_in, start_in, number_in, place_in}

-- FORMAT 7.1: a corner's point, and its place in coordIndex; of a grid its point again
pub record Use : Type 0 where
  pub point : ℕ
  pub place : ℕ

-- FORMAT 6.2: a kept face, with its number among all runs
pub record Listing : Type 0 where
  pub number : ℕ
  pub uses : List Use

-- read beyond the last, which never happens
abbrev pub no_use : Use
no_use = record { point = 0; place = 0 }

abbrev pub no_listing : Listing
no_listing = record { number = 0; uses = [] }

-- FORMAT 8: the faces, by what makes a corner of its face's number and its use
unfoldable pub faces_with : (ℕ → Use → Corner) → List Listing → List Face
faces_with corner ls = map (λ (l : Listing). map (corner l.number) l.uses) ls

-- the uses of kept face j
abbrev pub uses_at : List Listing → ℕ → List Use
uses_at ls j = (get_or ls j no_listing).uses

-- FORMAT 4, 8: w' has the words of w outside the tables that list faces: of the corners' points, the first corners, the places and the faces' numbers
pub record Beside (t : Plan) (w w' : List ℕ) : Type 0 where
  pub len : length w' ≡ length w
  pub same : (i : ℕ) → Out t.corners t.count i → Out t.starts (t.faces + 1) i → Out t.places t.count i → Out t.numbers t.faces i → get_or w' i 0 ≡ get_or w i 0

-- the tables hold the kept faces ls
pub record Listed (w : List ℕ) (t : Plan) (ls : List Listing) : Type 0 where
  pub room : Room (length w) t
  pub faces : length ls ≡ t.faces
  pub first : start_in w t 0 ≡ 0
  pub starts : (j : ℕ) → j < t.faces → start_in w t (suc j) ≡ start_in w t j + length (uses_at ls j)
  pub last : start_in w t t.faces ≡ t.count
  pub within : (c : ℕ) → c < t.count → point_in w t c < t.spots
  pub numbers : (j : ℕ) → j < t.faces → number_in w t j ≡ (get_or ls j no_listing).number
  pub points : (j i : ℕ) → j < t.faces → i < length (uses_at ls j) → point_in w t (start_in w t j + i) ≡ (get_or (uses_at ls j) i no_use).point
  pub places : (j i : ℕ) → j < t.faces → i < length (uses_at ls j) → place_in w t (start_in w t j + i) ≡ (get_or (uses_at ls j) i no_use).place
