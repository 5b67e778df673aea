-- FORMAT 4, 7, 8: the plan of a shape, the room for it, and what the shape leaves in its tables.
use Rattle.std.specs.Prelude.{◌≡◌, is_some, List, ℕ, ◌+◌, ◌*◌, ◌-◌, ◌^◌, ◌≤◌, ◌<◌, length, Float}
use Rattle.bits.specs.declared.Words2.{Words2}
use Rattle.block.specs.declared.crease.CreaseRule.{CreaseRule}
use Rattle.lists.specs.Parts.{Kept}
use Rattle.mesh.specs.Sizes.{Sizes}
use Rattle.tables.specs.declared.layout.Plan.{Plan}
use Rattle.tables.specs.Layout.{plan_of, Room}
use Rattle.tables.specs.Soups.{point_in, place_in, owner_in, points_in}
use Rattle.tables.specs.Listed.{Use, Listing, Listed}
use Rattle.corners.specs.Laid.{tables_of, Laid}
use Rattle.corners.specs.Corner.{texture_at}
use Rattle.soups.specs.Prepared.{Prepared}
use Rattle.build.specs.declared.shared.Shared.{Shared}

-- FORMAT 4: t is the plan of P points, in rings of `ring`, C corners and n faces, where z has P and C; a face has three corners or more, and z room for the
-- indices of its triangles
pub record Counted (z : Sizes) (n ring : ℕ) (t : Plan) : Type 0 where
  pub plan : t ≡ plan_of z.points z.corners n ring
  pub third : n * 3 ≤ z.corners
  pub indices : 3 * (z.corners - 2 * n) ≤ z.indices

-- FORMAT 4: w words and f floats have room for all tables of such a plan: for those that list faces, for those of the corners while vertices are made, for
-- five words a corner from the places on; and for three floats a corner, and six a face or one a point behind them
pub record Ample (z : Sizes) (n ring : ℕ) (t : Plan) (w f : ℕ) : Type 0 where
  pub spots : t.spots ≡ z.points
  pub count : t.count ≡ z.corners
  pub faces : t.faces ≡ n
  pub rings : t.ring ≡ ring
  pub room : Room w t
  pub laid : Laid (tables_of t) w
  pub low : t.owners ≤ 2 ^ 32
  pub scratch : t.places + t.count * 5 ≤ w
  pub textures : t.owners + t.count + 2 * t.count ≤ w
  pub floats : 3 * t.count + 6 * t.faces + t.spots ≤ f

-- FORMAT 6.2, 8: from the words w and the floats d, w' and e are left: the words `listed` held the points ps and the faces ls, and were then made ready, the
-- floats being `before`
pub record Tabled (ps : List ℕ) (ls : List Listing) (sh : Shared) (rule : CreaseRule) (t : Plan) (w w' : List ℕ) (d e : List Float) : Type 0 where
  pub len : length w' ≡ length w
  pub size : length e ≡ length d
  pub listed : List ℕ
  pub before : List Float
  pub faces : Listed listed t ls
  pub points : points_in listed t ≡ ps
  pub prepared : Prepared (is_some sh.attributes.normals) sh.ccw rule t listed w' before e

-- FORMAT 7.1: corner c as it is listed
abbrev pub use_in : List ℕ → Plan → ℕ → Use
use_in w t c = record { point = point_in w t c; place = place_in w t c }

-- FORMAT 7.3: the words w became w', which have the texture of each corner where texture is made, above the corners' face numbers: f of its face's number and
-- its use
pub record TexturesAt (sh : Shared) (f : ℕ → Use → Words2) (t : Plan) (w w' : List ℕ) : Type 0 where
  pub kept : Kept (t.owners + t.count) w w'
  pub at : 0 < sh.widths.texture → (c : ℕ) → c < t.count → texture_at w' (tables_of t) c ≡ f (owner_in w t c) (use_in w t c)
