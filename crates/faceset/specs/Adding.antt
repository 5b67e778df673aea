-- FORMAT 6.2, 8: one face after another put into the tables, whatever lists them.
use Rattle.std.specs.Prelude.{◌≡◌, Bool, cond, List, map, ℕ, suc, ◌+◌, ◌≤◌, ◌<◌, length, get_or, set}
use Rattle.lists.specs.Parts.{spliced}
use Rattle.tables.specs.declared.layout.Plan.{Plan}
use Rattle.tables.specs.Layout.{Room}
use Rattle.tables.specs.Soups.{point_in, start_in, number_in, place_in}
use Rattle.faceset.specs.declared.listing.Progress.{Progress}
use Rattle.tables.specs.Each.{PutEach}
use Rattle.tables.specs.Listed.{Use, no_use, no_listing, Listing, uses_at}

-- there is room for face j, with n corners from corner c on
pub record Fits (len : ℕ) (t : Plan) (j c n : ℕ) : Type 0 where
  pub room : Room len t
  pub face : j < t.faces
  pub corners : c + n ≤ t.count

abbrev pub points_used : List Use → List ℕ
points_used us = map (λ (u : Use). u.point) us

abbrev pub places_used : List Use → List ℕ
places_used us = map (λ (u : Use). u.place) us

-- face j, from corner c on: the points and the places of its corners, its number, and the first corner after it
unfoldable pub face_added : Plan → ℕ → ℕ → ℕ → List Use → List ℕ → List ℕ
face_added t j c number us w =
    let placed = spliced (spliced w (t.corners + c) (points_used us)) (t.places + c) (places_used us) in
    set (set placed (t.numbers + j) number) (t.starts + suc j) (c + length us)

-- how far a pass has come after a face of n corners
abbrev pub after_face : Progress → ℕ → Progress
after_face p n = record { faces = p.faces + 1; corner = record { 0 = p.corner.0 + n } }

-- the next face is put, of whose n points P says each, and Q of the places
pub record FacePut (P Q : ℕ → ℕ → Type 0) (t : Plan) (p : Progress) (number n : ℕ) (w w' : List ℕ) (r : Progress) : Type 0 where
  pub w₁ : List ℕ
  pub w₂ : List ℕ
  pub points : PutEach P (t.corners + p.corner.0) n w w₁
  pub places : PutEach Q (t.places + p.corner.0) n w₁ w₂
  pub row : w' ≡ set (set w₂ (t.numbers + p.faces) number) (t.starts + (p.faces + 1)) (p.corner.0 + n)
  pub next : r ≡ after_face p n

-- one face more, where it is kept: the words, and how far the pass has come
unfoldable pub words_after : Bool → Plan → Progress → ℕ → List Use → List ℕ → List ℕ
words_after kept t p number us w = cond kept (face_added t p.faces p.corner.0 number us w) w

unfoldable pub progress_after : Bool → Progress → ℕ → Progress
progress_after kept p n = cond kept (after_face p n) p

-- the first g of the faces ls are listed, with their c corners: Listed, as far as it has come
pub record ListedTo (w : List ℕ) (t : Plan) (ls : List Listing) (g c : ℕ) : Type 0 where
  pub first : start_in w t 0 ≡ 0
  pub starts : (j : ℕ) → j < g → start_in w t (suc j) ≡ start_in w t j + length (uses_at ls j)
  pub last : start_in w t g ≡ c
  pub within : (k : ℕ) → k < c → point_in w t k < t.spots
  pub numbers : (j : ℕ) → j < g → number_in w t j ≡ (get_or ls j no_listing).number
  pub points : (j i : ℕ) → j < g → i < length (uses_at ls j) → point_in w t (start_in w t j + i) ≡ (get_or (uses_at ls j) i no_use).point
  pub places : (j i : ℕ) → j < g → i < length (uses_at ls j) → place_in w t (start_in w t j + i) ≡ (get_or (uses_at ls j) i no_use).place
