-- FORMAT 7, 8.4: an extrusion is a shape, and its mesh is that of what is listed.
use mathlib.Core.Path.{◌≡◌, refl, sym, ap, ap₂, ◌∙◌}
use mathlib.Core.List.{List}
use Prim.Native.Nat.{ℕ}
use Rattle.block.specs.declared.header.Header.{Header}
use Rattle.block.specs.declared.settings.Settings.{Settings}
use Rattle.block.specs.Settings.{settings_of}
use Rattle.mesh.specs.Mesh.{mesh}
use Rattle.mesh.specs.Soup.{gathered}
use Rattle.mesh.specs.Extrusion.{spine_count, section_count, section_of, extrusion_of, extrusion_points, ring_of, cap_length, corner_at, extrusion_frame, extrusion_mesh}
use Rattle.tables.specs.Listed.{faces_with}
use Rattle.build.specs.declared.shared.Shared.{Shared}
use Rattle.shaping.specs.Shared.{plain_attributes, plain_shared, frame_by}
use Rattle.shaping.specs.Shape.{Shape}
use Rattle.shaping.proofs.Reading.{plain_shape}
use Rattle.extrusion.specs.Given.{Given}
use Rattle.extrusion.specs.Corners.{extrusion_corner}
use Rattle.extrusion.proofs.Joined.{block_listed}
use Rattle.extrusion.proofs.Counted.{listed_full}
use Rattle.extrusionshape.specs.Shape.{listings_for, texture_of}

-- what the faces share, as the code has it
module _ {bs : List ℕ} {h : Header} {sh : Shared} (G : Given bs h) (q : sh ≡ plain_shared h.convex h) where
  pub shape : (coord : List ℕ) (cap : ℕ) → Shape bs coord h sh (ring_of (section_of bs h)) (listings_for h cap) (texture_of bs) (extrusion_corner (extrusion_of bs))
  unfolding extrusion_corner corner_at extrusion_of
  shape coord cap =
      let k = G.kind in
      rw q
      (plain_shape bs coord h h.convex (ring_of (section_of bs h)) (listings_for h cap) (rw k refl, rw k refl, rw k refl)
      (λ j l. listed_full (spine_count h) (section_count h) cap h.begin_cap h.end_cap j l G.section) (λ n u. (refl, ap (λ (g : Header). gathered (ring_of (section_of bs g)) u.point) (sym G.head))) (λ n u. refl) (λ j i l b. refl)
      (λ e n u. rw (ap (λ (g : Header). g.need_uvs) (sym G.head) ∙ e) refl))

  module _ {s : Settings} (es : s ≡ settings_of bs) where
    frame_is : extrusion_frame (extrusion_of bs) ≡ frame_by (extrusion_points (extrusion_of bs)) sh s.crease
    unfolding extrusion_frame extrusion_of frame_by plain_shared plain_attributes
    frame_is = rw (q, es, G.head) refl

    -- with the corners of a cap as the code has them
    pub mesh_is : {cap : ℕ} → cap ≡ cap_length (section_of bs h)
        → extrusion_mesh bs ≡ mesh (frame_by (extrusion_points (extrusion_of bs)) sh s.crease) (faces_with (extrusion_corner (extrusion_of bs)) (listings_for h cap))
    unfolding extrusion_mesh
    mesh_is k = ap₂ mesh frame_is (block_listed G ∙ ap (λ (c : ℕ). faces_with (extrusion_corner (extrusion_of bs)) (listings_for h c)) (sym k))
