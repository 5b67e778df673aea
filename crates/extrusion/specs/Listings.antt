-- FORMAT 8.4, extrusion (pm.faces): the faces by the points of their corners, sides and then caps, as they are listed in the tables.
use Rattle.std.specs.Prelude.{◌≡◌, Bool, true, false, cond, List, [], ◌∷◌, ◌++◌, map, reverse, ℕ, zero, suc, ◌+◌, ◌-◌, ◌*◌, ◌≤◌, ltb}
use Rattle.block.specs.declared.header.Header.{Header}
use Rattle.lists.specs.Loops.{tab}
use Rattle.lists.specs.Lists.{map_n, tabs}
use Rattle.mesh.specs.Quads.{quad}
use Rattle.mesh.specs.Extrusion.{spine_count, section_count, point_number, has_cap}
use Rattle.mesh.specs.Sizes.{quad_count, cap_count}
use Rattle.tables.specs.declared.layout.Plan.{Plan}
use Rattle.tables.specs.Layout.{Room}
use Rattle.tables.specs.Listed.{Use, Listing}

-- FORMAT 8.4: what is there where it is wanted
abbrev pub if_wanted : {A : Type 0} → Bool → A → List A
if_wanted true x = x ∷ []
if_wanted false x = []

-- FORMAT 8.4, extrusion (faces): the points of the sides, row by row
abbrev pub side_points : ℕ → ℕ → List (List ℕ)
side_points n m = tabs (quad (point_number m)) (n - 1) (m - 1)

-- FORMAT 8.4, extrusion (beginCap, endCap): of the begin cap the other way round, and of the end cap
unfoldable pub begin_points : Bool → ℕ → List (List ℕ)
begin_points wanted cap = if_wanted (has_cap wanted cap) (reverse (tab (λ j. j) cap 0))

unfoldable pub end_points : Bool → ℕ → ℕ → List (List ℕ)
end_points wanted from cap = if_wanted (has_cap wanted cap) (tab (λ j. from + j) cap 0)

-- FORMAT 8.4: of all faces, where a cap has `cap` corners
unfoldable pub face_points : ℕ → ℕ → ℕ → Bool → Bool → List (List ℕ)
face_points n m cap begin end = side_points n m ++ (begin_points begin cap ++ end_points end ((n - 1) * m) cap)

-- FORMAT 8.4: a corner's place is its point
abbrev pub use_of : ℕ → Use
use_of p = record { point = p; place = p }

-- FORMAT 8.4: each face with its place among all as its number
unfoldable pub extrusion_listings : ℕ → ℕ → ℕ → Bool → Bool → List Listing
extrusion_listings n m cap begin end = map_n (λ k ps. record { number = k; uses = map use_of ps }) 0 (face_points n m cap begin end)

-- FORMAT 8.4: the corners of face j, where the first s faces are sides; and how many stand before it
abbrev pub size_at : ℕ → ℕ → ℕ → ℕ
size_at s cap j = cond (ltb j s) 4 cap

unfoldable pub start_at : ℕ → ℕ → ℕ → ℕ
start_at s cap zero = 0
start_at s cap (suc j) = start_at s cap j + size_at s cap j

-- FORMAT 4, 8.4: the tables are planned for the extrusion of this header, whose caps have `cap` corners
pub record Planned (h : Header) (cap : ℕ) (len : ℕ) (t : Plan) : Type 0 where
  pub room : Room len t
  pub spine : 2 ≤ spine_count h
  pub section : 2 ≤ section_count h
  pub fewer : cap ≤ section_count h
  pub spots : t.spots ≡ spine_count h * section_count h
  pub count : t.count ≡ 4 * quad_count h + cap_count h cap * cap
  pub faces : t.faces ≡ quad_count h + cap_count h cap
