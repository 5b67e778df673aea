-- FORMAT 6.4, 7, 8.5: a triangle, fan, strip or quad set is a shape, and its mesh is that of what is listed.
use mathlib.Core.Path.{◌≡◌, refl, sym, ap, ap₂, ◌∙◌}
use mathlib.Core.Bool.{true, false}
use mathlib.Core.List.{List}
use Prim.Native.Nat.{ℕ, ◌≤◌}
use lib.ListN.{length}
use Rattle.bits.specs.Bits.{entries}
use Rattle.bits.specs.declared.Words4.{Words4}
use Rattle.block.specs.Kind.{is_indexed, is_primitives}
use Rattle.block.specs.declared.kind.Kind.TheVariants.{Primitives}
use Rattle.block.specs.declared.header.Header.{Header}
use Rattle.block.specs.declared.settings.Settings.{Settings}
use Rattle.block.specs.declared.topology.Topology.{Topology}
use Rattle.block.specs.Header.{header_of}
use Rattle.block.specs.Settings.{settings_of}
use Rattle.block.specs.Extents.{list_bytes}
use Rattle.block.specs.Refusal.{is_other_attributes}
use Rattle.block.proofs.ExtentLaws.{list_none}
use Rattle.block.proofs.Table.{by_point_lem}
use Rattle.lists.proofs.Lists.{All_get_or}
use Rattle.mesh.specs.Mesh.{mesh}
use Rattle.mesh.specs.FaceSet.{rest_of, coord_in, faces_of, convex_frame, point_count}
use Rattle.mesh.specs.Primitives.{listed_coord, primitive_mesh}
use Rattle.mesh.proofs.Dense.{mesh_dense}
use Rattle.mesh.proofs.Primitives.{listed_entries}
use Rattle.tables.specs.Listed.{Listing, no_listing, faces_with}
use Rattle.build.specs.declared.shared.Shared.{Shared}
use Rattle.shaping.specs.Shared.{listed_shared, frame_by}
use Rattle.shaping.specs.Shape.{Shape}
use Rattle.shaping.proofs.Reading.{listed_frame}
use Rattle.faceset.specs.Listings.{corner_use}
use Rattle.primitiveset.proofs.Faces.{listings_long}
use Rattle.primitiveset.proofs.Join.{Plain, join}
use Rattle.facesetshape.specs.Shape.{face_set_texture}
use Rattle.facesetshape.proofs.Shapes.{listed}
use Rattle.primitiveshape.specs.Shape.{listings_in}

module _ (missing : Words4) (g : Topology) (bs : List ℕ) where
  own : (header_of bs).kind ≡ Primitives g
      → Shape bs (list_bytes bs (header_of bs) 1) (header_of bs) (listed_shared missing true (header_of bs)) 0 (listings_in g bs (header_of bs)) (face_set_texture bs (header_of bs) (settings_of bs))
      (corner_use missing (rest_of bs) (list_bytes bs (header_of bs) 1))
  own k =
      let ls = listings_in g bs (header_of bs) in
      listed missing bs true (ap is_indexed k) (rw k refl, rw k refl, rw k refl) ls
      (All_get_or (λ (l : Listing). 3 ≤ length l.uses) ls (listings_long (point_count (header_of bs)) g (entries (list_bytes bs (header_of bs) 1))) no_listing)

  -- FORMAT 3, 9: what is not refused has no attribute index
  plain_rest : (header_of bs).kind ≡ Primitives g → is_other_attributes (header_of bs) ≡ false → Plain (rest_of bs)
  unfolding rest_of
  plain_rest k e =
      let B = by_point_lem (header_of bs) (ap is_primitives k) e in
      record {
        colours = list_none bs (header_of bs) 3 B.colour_index_lem;
        normals = list_none bs (header_of bs) 5 B.normal_index_lem;
        textures = list_none bs (header_of bs) 7 B.texture_index_lem;
      }

  mesh_own : (header_of bs).kind ≡ Primitives g → is_other_attributes (header_of bs) ≡ false → point_count (header_of bs) ≤ 0x8000_0000
      → primitive_mesh missing g bs
      ≡ mesh (frame_by (entries (list_bytes bs (header_of bs) 0)) (listed_shared missing true (header_of bs)) (settings_of bs).crease)
      (faces_with (corner_use missing (rest_of bs) (list_bytes bs (header_of bs) 1)) (listings_in g bs (header_of bs)))
  unfolding primitive_mesh convex_frame rest_of coord_in
  mesh_own k e low =
      let F = convex_frame (rest_of bs) in
      mesh_dense F (faces_of missing (rest_of bs) (listed_coord g bs))
      ∙ ap₂ mesh (sym (listed_frame _ missing true (header_of bs) _)) (join missing (rest_of bs) (plain_rest k e) low g (coord_in bs) (listed_coord g bs) (listed_entries g bs))

  -- with the header, the settings, what the faces share and coordIndex as the code has them
  module _ {h : Header} {s : Settings} {sh : Shared} {coord : List ℕ} (eh : h ≡ header_of bs) (es : s ≡ settings_of bs) (q : sh ≡ listed_shared missing true h) (c : coord ≡ list_bytes bs h 1) where
    pub shape : h.kind ≡ Primitives g → Shape bs coord h sh 0 (listings_in g bs h) (face_set_texture bs h s) (corner_use missing (rest_of bs) coord)
    shape k = rw (c, q, es, eh) (own (rw eh at k))

    pub mesh_is : h.kind ≡ Primitives g → is_other_attributes h ≡ false → point_count h ≤ 0x8000_0000
        → primitive_mesh missing g bs ≡ mesh (frame_by (entries (list_bytes bs h 0)) sh s.crease) (faces_with (corner_use missing (rest_of bs) coord) (listings_in g bs h))
    mesh_is k e l = rw (c, q, es, eh) (mesh_own (rw eh at k) (rw eh at e) (rw eh at l))
