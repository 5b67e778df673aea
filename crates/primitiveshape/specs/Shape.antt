-- FORMAT 6.4, 8.5: the faces of a triangle, fan, strip or quad set as they are listed.
use Rattle.std.specs.Prelude.{List, ℕ}
use Rattle.bits.specs.Bits.{entries}
use Rattle.block.specs.declared.header.Header.{Header}
use Rattle.block.specs.declared.topology.Topology.{Topology}
use Rattle.block.specs.Extents.{list_bytes}
use Rattle.mesh.specs.FaceSet.{point_count}
use Rattle.tables.specs.Listed.{Listing}
use Rattle.primitiveset.specs.Listings.{primitive_listings}

-- FORMAT 6.4: the kept primitives, each a face
abbrev pub listings_in : Topology → List ℕ → Header → List Listing
listings_in g bs h = primitive_listings (point_count h) g (entries (list_bytes bs h 1))
