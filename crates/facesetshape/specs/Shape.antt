-- FORMAT 4, 6.2, 7, 8.1: the plan of a face set, its faces as they are listed, and its texture.
use Rattle.std.specs.Prelude.{◌≡◌, List, ℕ, ◌+◌, ◌*◌, ◌/◌, ◌≤◌, length, take}
use Rattle.bits.specs.Bits.{entries}
use Rattle.bits.specs.declared.Words2.{Words2}
use Rattle.block.specs.declared.header.Header.{Header}
use Rattle.block.specs.declared.settings.Settings.{Settings}
use Rattle.block.specs.Extents.{list_bytes}
use Rattle.block.specs.Runs.{Run, faces, corners, sum_over}
use Rattle.mesh.specs.Texture.{fit_of, default_at}
use Rattle.mesh.specs.FaceSet.{point_count}
use Rattle.tables.specs.declared.layout.Plan.{Plan}
use Rattle.tables.specs.Layout.{plan_of}
use Rattle.tables.specs.Soups.{points_in}
use Rattle.tables.specs.Listed.{Use, Listing}
use Rattle.texture.specs.Corner.{texture_in}
use Rattle.texture.specs.Textured.{Fitted}
use Rattle.faceset.specs.Listings.{listings_of}

-- FORMAT 2.4: coord is the list of coordIndex, and the list of points has the words of all points and no more
pub record Lists (bs coord : List ℕ) (h : Header) : Type 0 where
  pub coord_is : coord ≡ list_bytes bs h 1
  pub room : 3 * point_count h ≤ length (list_bytes bs h 0) / 4
  pub whole : take (3 * point_count h) (entries (list_bytes bs h 0)) ≡ entries (list_bytes bs h 0)

-- FORMAT 4, 6.2: P points, and the corners and the number of the kept faces among some runs
unfoldable pub run_plan : ℕ → List Run → Plan
run_plan points rs = plan_of points (sum_over (corners points) rs) (sum_over (faces points) rs) 0

-- FORMAT 6.2: the kept faces
abbrev pub face_set_listings : List ℕ → Header → List Listing
face_set_listings bs h = listings_of (point_count h) (entries (list_bytes bs h 1))

-- FORMAT 7.1 to 7.4, indexed_face_set (t_out): of a corner, whatever its face
unfoldable pub face_set_texture : List ℕ → Header → Settings → ℕ → Use → Words2
face_set_texture bs h s number u =
    let points = entries (list_bytes bs h 0) in
    texture_in bs (list_bytes bs h 1) h s u.place (default_at points (fit_of points (point_count h)) u.point)

-- FORMAT 7.4: the words w have the points, and room for the textures above the corners' face numbers
pub record Placed (bs : List ℕ) (h : Header) (t : Plan) (w : List ℕ) : Type 0 where
  pub spots : t.spots ≡ point_count h
  pub points : points_in w t ≡ entries (list_bytes bs h 0)
  pub fitted : Fitted w t (t.owners + t.count)
