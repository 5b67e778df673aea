-- FORMAT 7, 8.3: a grid is a shape, and its mesh is that of what is listed.
use mathlib.Core.Path.{◌≡◌, refl, sym, ap, ap₂, ◌∙◌}
use mathlib.Core.Bool.{true}
use mathlib.Core.List.{List, []}
use Prim.Native.Nat.{ℕ, ◌-◌, ◌*◌, ◌/◌, ◌%◌, ◌≤◌, ◌<◌}
use native.Mathlib.Omega.{arith}
use lib.ListN.{length, get_or}
use Rattle.bits.specs.Bits.{entries}
use Rattle.bits.specs.declared.Words2.{Words2}
use Rattle.bits.specs.declared.Words4.{Words4}
use Rattle.block.specs.Kind.{is_indexed}
use Rattle.block.specs.declared.kind.Kind.TheVariants.{Grid}
use Rattle.block.specs.declared.header.Header.{Header}
use Rattle.block.specs.declared.settings.Settings.{Settings}
use Rattle.block.specs.Header.{header_of}
use Rattle.block.specs.Settings.{settings_of}
use Rattle.block.specs.Extents.{list_bytes}
use Rattle.lists.proofs.Lists.{get_or_map_lt}
use Rattle.lists.proofs.Tabs.{tab_at, length_tab}
use Rattle.mesh.specs.Mesh.{mesh}
use Rattle.mesh.specs.Quads.{quad}
use Rattle.mesh.specs.FaceSet.{convex_frame}
use Rattle.mesh.specs.Grid.{x_dimension, z_dimension, grid_points, grid_default, grid_of, grid_mesh}
use Rattle.tables.specs.Listed.{Use, Listing, no_use, no_listing, faces_with, uses_at}
use Rattle.texture.specs.Corner.{texture_in}
use Rattle.soups.proofs.Streams.{grid_streamed}
use Rattle.build.specs.declared.shared.Shared.{Shared}
use Rattle.shaping.specs.Shared.{listed_shared, frame_by}
use Rattle.shaping.specs.Shape.{Shape}
use Rattle.shaping.proofs.Reading.{listed_frame, listed_shape}
use Rattle.grid.specs.Listings.{quad_of, use_of, grid_listing, grid_listings, grid_use}
use Rattle.grid.specs.Textures.{grid_texture}
use Rattle.grid.proofs.Theorem.{grid_faces_lem, four_uses}
use Rattle.gridshape.specs.Shape.{texture_of}

-- ---- the listings

module _ (xd zd j : ℕ) (h : j < length (grid_listings xd zd)) where
  listing_at : get_or (grid_listings xd zd) j no_listing ≡ grid_listing xd j
  unfolding grid_listings
  listing_at = tab_at (grid_listing xd) ((zd - 1) * (xd - 1)) j no_listing (omega (arith, h, length_tab (grid_listing xd) ((zd - 1) * (xd - 1)) 0))

  four_at : length (uses_at (grid_listings xd zd) j) ≡ 4
  four_at = ap (λ (l : Listing). length l.uses) listing_at ∙ four_uses xd j

  use_named : (i : ℕ) → i < 4 → get_or (grid_listing xd j).uses i no_use ≡ use_of (get_or (quad_of (λ p. p) xd j) i 0)
  unfolding grid_listing quad
  use_named i l = get_or_map_lt use_of (quad_of (λ p. p) xd j) i no_use 0 l

  -- the place of a use is its point
  place_at : (i : ℕ) → i < length (uses_at (grid_listings xd zd) j) → (get_or (uses_at (grid_listings xd zd) j) i no_use).point ≡ (get_or (uses_at (grid_listings xd zd) j) i no_use).place
  place_at i l =
      let e = ap (λ (l : Listing). get_or l.uses i no_use) listing_at ∙ use_named i (omega (arith, four_at, l)) in
      ap (λ (u : Use). u.point) e ∙ sym (ap (λ (u : Use). u.place) e)

-- ---- the shape

module _ (missing : Words4) (bs : List ℕ) where
  own : (header_of bs).kind ≡ Grid
      → Shape bs [] (header_of bs) (listed_shared missing true (header_of bs)) 0 (grid_listings (x_dimension (header_of bs)) (z_dimension (header_of bs))) (texture_of bs (header_of bs) (settings_of bs))
      (grid_use missing (grid_of bs))
  unfolding grid_texture grid_use grid_of
  own k =
      let xd = x_dimension (header_of bs) in
      let zd = z_dimension (header_of bs) in
      let default : ℕ → Words2 = λ p. grid_default (header_of bs) (p % xd) (p / xd) in
      listed_shape missing (grid_of bs) bs [] default true (grid_listings xd zd) (grid_streamed bs (ap is_indexed k)) (rw k refl, rw k refl, rw k refl)
      (λ j h. omega (arith, four_at xd zd j h))
      (λ j i h b. ap (λ (p : ℕ). texture_in bs [] (header_of bs) (settings_of bs) p (default (get_or (uses_at (grid_listings xd zd) j) i no_use).point)) (place_at xd zd j h i b))

  mesh_own : 2 ≤ x_dimension (header_of bs) → grid_mesh missing bs
      ≡ mesh (frame_by (grid_points (header_of bs) (settings_of bs) (entries (list_bytes bs (header_of bs) 3))) (listed_shared missing true (header_of bs)) (settings_of bs).crease)
      (faces_with (grid_use missing (grid_of bs)) (grid_listings (x_dimension (header_of bs)) (z_dimension (header_of bs))))
  unfolding grid_mesh convex_frame grid_of
  mesh_own h = ap₂ mesh (sym (listed_frame _ missing true (header_of bs) _)) (grid_faces_lem missing (grid_of bs) h)

  -- with the header, the settings, what the faces share and the empty coordIndex as the code has them
  module _ {h : Header} {s : Settings} {sh : Shared} (eh : h ≡ header_of bs) (es : s ≡ settings_of bs) (q : sh ≡ listed_shared missing true h) where
    pub shape : {coord : List ℕ} → coord ≡ [] → h.kind ≡ Grid → Shape bs coord h sh 0 (grid_listings (x_dimension h) (z_dimension h)) (texture_of bs h s) (grid_use missing (grid_of bs))
    shape c k = rw (c, q, es, eh) (own (rw eh at k))

    pub mesh_is : 2 ≤ x_dimension h → grid_mesh missing bs
        ≡ mesh (frame_by (grid_points h s (entries (list_bytes bs h 3))) sh s.crease) (faces_with (grid_use missing (grid_of bs)) (grid_listings (x_dimension h) (z_dimension h)))
    mesh_is w = rw (q, es, eh) (mesh_own (rw eh at w))
