-- FORMAT 5, 7, 8: what the faces of a shape share, where the block lists attributes and where it lists none.
use Rattle.std.specs.Prelude.{Bool, None, is_some, cond, List, ℕ}
use Rattle.bits.specs.declared.Words4.{Words4}
use Rattle.block.specs.declared.crease.CreaseRule.{CreaseRule}
use Rattle.block.specs.declared.header.Header.{Header}
use Rattle.block.specs.Stream.{stream_of}
use Rattle.mesh.specs.Words.{no4}
use Rattle.mesh.specs.Soup.{Frame}
use Rattle.vertices.specs.declared.places.Widths.{Widths}
use Rattle.vertices.specs.Places.{normal_words, texture_words}
use Rattle.corners.specs.declared.attributes.Attributes.{Attributes}
use Rattle.soups.specs.Attributes.{attributes_of, face_widths}
use Rattle.build.specs.declared.shared.Shared.{Shared}

-- FORMAT 8.1, 8.3, indexed_face_set and elevation_grid (pm): colours, normals and texture points are listed
unfoldable pub listed_shared : Words4 → Bool → Header → Shared
listed_shared missing convex h = record { ccw = h.ccw; convex = convex; widths = face_widths h; attributes = attributes_of missing h }

-- FORMAT 5, 8.4, extrusion (pm): normals are made, colours never, and texture where it is wanted
unfoldable pub plain_widths : Header → Widths
plain_widths h = record { normal = normal_words; colour = 0; texture = cond h.need_uvs texture_words 0 }

-- FORMAT 8.4, extrusion (pm): no normals are supplied; the colours are not read
unfoldable pub plain_attributes : Header → Attributes
plain_attributes h =
    record {
      normals = None;
      colours = stream_of h h.color_per_vertex 2;
      alpha = h.alpha;
      missing = no4;
    }

-- FORMAT 8.4, extrusion (pm): no attribute is listed
unfoldable pub plain_shared : Bool → Header → Shared
plain_shared convex h = record { ccw = h.ccw; convex = convex; widths = plain_widths h; attributes = plain_attributes h }

-- FORMAT 8, PolyMesh: the frame of the points, of what is shared and of the crease rule
unfoldable pub frame_by : List ℕ → Shared → CreaseRule → Frame
frame_by points sh rule = record { points = points; ccw = sh.ccw; convex = sh.convex; supplied = is_some sh.attributes.normals; crease = rule }
