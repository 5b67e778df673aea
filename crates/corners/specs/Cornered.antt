-- FORMAT 5, 11: what is asked of the slices, and what they hold once each corner has its vertex.
use Rattle.std.specs.Prelude.{◌≡◌, List, ℕ, ◌+◌, ◌*◌, ◌≤◌, ◌<◌, length, get_or}
use Rattle.lists.specs.Lists.{place}
use Rattle.mesh.specs.Vertices.{Key, same_key}
use Rattle.lists.specs.Parts.{Kept}
use Rattle.vertices.specs.declared.places.Widths.{Widths}
use Rattle.vertices.specs.Places.{Store, Roomy}
use Rattle.vertices.specs.Adding.{Holds, made_of, points_in}
use Rattle.corners.specs.declared.attributes.Attributes.{Attributes}
use Rattle.corners.specs.declared.laid.CornerTables.{CornerTables}
use Rattle.corners.specs.Laid.{Laid, chains_of}
use Rattle.corners.specs.Corner.{Lent, point_at, key_in}

-- the tables stand in the words w and name points; the floats hold three for each corner; the output slices have room for a vertex for each corner
pub record Ready (L : Lent) (widths : Widths) (w : List ℕ) (t : CornerTables) (s : Store) : Type 0 where
  pub laid : Laid t (length w)
  pub points : (c : ℕ) → c < t.count → point_at w t c < t.spots
  pub floats : 3 * t.count ≤ length L.floats
  pub roomy : Roomy widths s t.count

-- FORMAT 11, PolyMesh::build (dedup): the vertices of all corners
unfoldable pub vertices_in : Lent → Attributes → Widths → List ℕ → CornerTables → List Key
vertices_in L a widths w t = made_of (key_in L a widths w t) t.count

-- FORMAT 5, 11: from the slices z and the words w, of which s and w' are what is left: there are n vertices, the slices hold them and beyond them what
-- they held, each corner's vertex number is that of its key, and the words below these numbers are kept
pub record Cornered (L : Lent) (a : Attributes) (widths : Widths) (t : CornerTables) (z : Store) (w : List ℕ) (s : Store) (w' : List ℕ) (n : ℕ) : Type 0 where
  pub count : n ≡ length (vertices_in L a widths w t)
  pub holds : Holds widths (points_in (chains_of t) w) z s (vertices_in L a widths w t)
  pub named : (c : ℕ) → c < t.count → get_or w' (t.named + c) 0 ≡ place same_key (key_in L a widths w t c) (vertices_in L a widths w t)
  pub kept : Kept t.named w w'
