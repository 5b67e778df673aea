-- FORMAT 7, 8.1: a face set is a shape, and its mesh is that of what is listed.
use mathlib.Core.Path.{◌≡◌, refl, sym, ap, ap₂, ◌∙◌}
use mathlib.Core.Bool.{Bool, true, ◌||◌}
use mathlib.Core.List.{List}
use Prim.Native.Nat.{ℕ, ◌≤◌, ◌<◌}
use lib.ListN.{length}
use Rattle.bits.specs.Bits.{entries}
use Rattle.bits.specs.declared.Words4.{Words4}
use Rattle.block.specs.Kind.{is_indexed}
use Rattle.block.specs.declared.kind.Kind.TheVariants.{FaceSet}
use Rattle.block.specs.declared.header.Header.{Header}
use Rattle.block.specs.declared.settings.Settings.{Settings}
use Rattle.block.specs.Header.{header_of}
use Rattle.block.specs.Settings.{settings_of}
use Rattle.block.specs.Extents.{list_bytes}
use Rattle.lists.proofs.Lists.{All_get_or}
use Rattle.mesh.specs.Mesh.{mesh}
use Rattle.mesh.specs.FaceSet.{rest_of, coord_in, faces_of, frame_of, face_set_mesh, point_count}
use Rattle.mesh.specs.Texture.{fit_of, default_at}
use Rattle.mesh.specs.Result.{makes_normals, makes_colours, makes_textures}
use Rattle.mesh.proofs.Dense.{mesh_dense}
use Rattle.tables.specs.Listed.{Listing, no_listing, faces_with, uses_at}
use Rattle.soups.proofs.Streams.{rest_streamed}
use Rattle.build.specs.declared.shared.Shared.{Shared}
use Rattle.shaping.specs.Shared.{listed_shared, frame_by}
use Rattle.shaping.specs.Shape.{Shape}
use Rattle.shaping.proofs.Reading.{listed_frame, listed_shape}
use Rattle.faceset.specs.Listings.{corner_use}
use Rattle.faceset.proofs.Faces.{dense_listed, listings_long}
use Rattle.facesetshape.specs.Shape.{face_set_listings, face_set_texture}

module _ (missing : Words4) (bs : List ℕ) where
  -- of any kind that reads the lists of a face set, with any list of faces that have three corners or more
  pub listed : (convex : Bool) → is_indexed (header_of bs).kind ≡ true
      → (makes_normals (header_of bs) ≡ true) × (makes_colours (header_of bs) ≡ (header_of bs).colors) × (makes_textures (header_of bs) ≡ ((header_of bs).need_uvs || (header_of bs).texture_points))
      → (ls : List Listing) → ((j : ℕ) → j < length ls → 3 ≤ length (uses_at ls j))
      → Shape bs (list_bytes bs (header_of bs) 1) (header_of bs) (listed_shared missing convex (header_of bs)) 0 ls (face_set_texture bs (header_of bs) (settings_of bs))
      (corner_use missing (rest_of bs) (list_bytes bs (header_of bs) 1))
  unfolding face_set_texture corner_use rest_of
  listed convex i K ls long =
      let points = entries (list_bytes bs (header_of bs) 0) in
      listed_shape missing (rest_of bs) bs (list_bytes bs (header_of bs) 1) (default_at points (fit_of points (point_count (header_of bs)))) convex ls (rest_streamed bs i) K long
      (λ j i l b. refl)

  own : (header_of bs).kind ≡ FaceSet
      → Shape bs (list_bytes bs (header_of bs) 1) (header_of bs) (listed_shared missing (header_of bs).convex (header_of bs)) 0 (face_set_listings bs (header_of bs))
      (face_set_texture bs (header_of bs) (settings_of bs)) (corner_use missing (rest_of bs) (list_bytes bs (header_of bs) 1))
  own k =
      let ls = face_set_listings bs (header_of bs) in
      listed (header_of bs).convex (ap is_indexed k) (rw k refl, rw k refl, rw k refl) ls
      (All_get_or (λ (l : Listing). 3 ≤ length l.uses) ls (listings_long (point_count (header_of bs)) (entries (list_bytes bs (header_of bs) 1))) no_listing)

  mesh_own : face_set_mesh missing bs
      ≡ mesh (frame_by (entries (list_bytes bs (header_of bs) 0)) (listed_shared missing (header_of bs).convex (header_of bs)) (settings_of bs).crease)
      (faces_with (corner_use missing (rest_of bs) (list_bytes bs (header_of bs) 1)) (face_set_listings bs (header_of bs)))
  unfolding face_set_mesh frame_of rest_of coord_in
  mesh_own =
      let F = frame_of (rest_of bs) in
      mesh_dense F (faces_of missing (rest_of bs) (coord_in bs)) ∙ ap₂ mesh (sym (listed_frame _ missing (header_of bs).convex (header_of bs) _)) (dense_listed missing (rest_of bs) (coord_in bs))

  -- with the header, the settings, what the faces share and coordIndex as the code has them
  module _ {h : Header} {s : Settings} {sh : Shared} {coord : List ℕ} (eh : h ≡ header_of bs) (es : s ≡ settings_of bs) (q : sh ≡ listed_shared missing h.convex h) (c : coord ≡ list_bytes bs h 1) where
    pub shape : h.kind ≡ FaceSet → Shape bs coord h sh 0 (face_set_listings bs h) (face_set_texture bs h s) (corner_use missing (rest_of bs) coord)
    shape k = rw (c, q, es, eh) (own (rw eh at k))

    pub mesh_is : face_set_mesh missing bs ≡ mesh (frame_by (entries (list_bytes bs h 0)) sh s.crease) (faces_with (corner_use missing (rest_of bs) coord) (face_set_listings bs h))
    mesh_is = rw (c, q, es, eh) mesh_own
