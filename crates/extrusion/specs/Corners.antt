-- FORMAT 8.4: a corner made of its face's number and its point, and what is known where its texture is written.
use Rattle.std.specs.Prelude.{◌≡◌, cond, List, ◌++◌, ℕ, ◌+◌, ◌-◌, ◌*◌, ◌/◌, ◌%◌, ◌≤◌, ◌<◌, ltb, Float, length, take, drop}
use Rattle.bits.specs.declared.Words2.{Words2}
use Rattle.block.specs.declared.header.Header.{Header}
use Rattle.mesh.specs.Soup.{Corner}
use Rattle.mesh.specs.declared.texture.Fit.{Fit}
use Rattle.mesh.specs.Arcs.{at2, arcs2, arcs3}
use Rattle.mesh.specs.Extrusion.{Extrusion, extrusion_of, spine_count, section_count, side_texture, cap_fit, cap_texture, corner_at}
use Rattle.tables.specs.declared.layout.Plan.{Plan}
use Rattle.tables.specs.Soups.{point_in, owner_in}
use Rattle.tables.specs.Listed.{Use}
use Rattle.extrusion.specs.Given.{Given}
use Rattle.extrusion.specs.Listings.{use_of}

-- FORMAT 8.4, extrusion (t_out, cap_st): before the transform: a side's where the face is one of the sides, else a cap's
unfoldable pub texture_of : Extrusion → ℕ → ℕ → Words2
texture_of E number p =
    let m = length E.section in
    let side = side_texture E (p / m) (p % m) in
    let cap = cap_texture (cap_fit E.section) (at2 E.section (p % m)) in
    cond (ltb number ((length E.spine - 1) * (m - 1))) side cap

-- FORMAT 8.4: a corner of face `number`, by its use
unfoldable pub extrusion_corner : Extrusion → ℕ → Use → Corner
extrusion_corner E number u = corner_at E u.point (texture_of E number u.point)

-- FORMAT 7.3, 8.4: the texture of corner c, from the tables of the corners' points and of their faces' numbers
unfoldable pub extrusion_texture : Extrusion → List ℕ → Plan → ℕ → Words2
extrusion_texture E w t c = (extrusion_corner E (owner_in w t c) (use_of (point_in w t c))).texture

-- FORMAT 8.4: the block, the parameters of the cross-section and then of the spine in floats from place `at` on, and the caps' fit
pub record Measured (bs : List ℕ) (h : Header) (floats : List Float) (at : ℕ) (fit : Fit) : Type 0 where
  pub given : Given bs h
  pub arcs : take (section_count h + spine_count h) (drop at floats) ≡ arcs2 (extrusion_of bs).section ++ arcs3 (extrusion_of bs).spine
  pub fitted : fit ≡ cap_fit (extrusion_of bs).section

-- FORMAT 4, 8.4: the tables of corners and face numbers stand before the textures, and the corners' points are points
pub record Cornered (h : Header) (t : Plan) (textures : ℕ) (w : List ℕ) : Type 0 where
  pub points : t.corners + t.count ≤ textures
  pub faces : t.owners + t.count ≤ textures
  pub room : textures + 2 * t.count ≤ length w
  pub within : (c : ℕ) → c < t.count → point_in w t c < spine_count h * section_count h
