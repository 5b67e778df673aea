-- FORMAT 8.5: the block of a triangle, fan, strip or quad set, by the face set that lists its primitives one by one. ISO/IEC 19775-1, IndexedTriangleSet,
-- IndexedTriangleFanSet, IndexedTriangleStripSet, IndexedQuadSet.
use Rattle.std.specs.Prelude.{ℕ, List}
use Rattle.bits.specs.Bits.{entries, bytes_of}
use Rattle.bits.specs.declared.Words4.{Words4}
use Rattle.block.specs.declared.topology.Topology.{Topology}
use Rattle.primitives.specs.Primitives.{face_list}
use Rattle.mesh.specs.Mesh.{Mesh, mesh}
use Rattle.mesh.specs.FaceSet.{rest_of, coord_in, point_count, faces_of, convex_frame}

-- FORMAT 6.4: the bytes of the index list of that face set
unfoldable pub listed_coord : Topology → List ℕ → List ℕ
listed_coord g bs = bytes_of (face_list (point_count (rest_of bs).head) g (entries (coord_in bs)))

-- FORMAT 8.5: the mesh of that face set, a quad split as a fan
unfoldable pub primitive_mesh : Words4 → Topology → List ℕ → Mesh
primitive_mesh missing g bs = mesh (convex_frame (rest_of bs)) (faces_of missing (rest_of bs) (listed_coord g bs))
