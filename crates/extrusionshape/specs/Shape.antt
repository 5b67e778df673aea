-- FORMAT 7, 8.4: the faces of an extrusion as they are listed, and its texture.
use Rattle.std.specs.Prelude.{◌≡◌, true, List, ◌++◌, ℕ, ◌+◌, take, drop, Float}
use Rattle.bits.specs.declared.Words2.{Words2}
use Rattle.block.specs.declared.header.Header.{Header}
use Rattle.mesh.specs.Arcs.{arcs2, arcs3}
use Rattle.mesh.specs.Extrusion.{spine_count, section_count, extrusion_of}
use Rattle.tables.specs.Listed.{Use, Listing}
use Rattle.extrusion.specs.Listings.{use_of, extrusion_listings}
use Rattle.extrusion.specs.Corners.{extrusion_corner}

-- FORMAT 8.4: the sides and the caps
abbrev pub listings_for : Header → ℕ → List Listing
listings_for h cap = extrusion_listings (spine_count h) (section_count h) cap h.begin_cap h.end_cap

-- FORMAT 8.4, arc_params: where texture is wanted, the floats hold the parameters of the cross-section and then of the spine, from place `at` on
pub record ArcsAt (bs : List ℕ) (h : Header) (floats : List Float) (at : ℕ) : Type 0 where
  pub held : h.need_uvs ≡ true → take (section_count h + spine_count h) (drop at floats) ≡ arcs2 (extrusion_of bs).section ++ arcs3 (extrusion_of bs).spine

-- FORMAT 7.3, 8.4: of a corner, by its face's number and its point
abbrev pub texture_of : List ℕ → ℕ → Use → Words2
texture_of bs number u = (extrusion_corner (extrusion_of bs) number (use_of u.point)).texture
