-- What is left in the tables of an extrusion.
use mathlib.Core.Path.{◌≡◌, sym, ap, ◌∙◌}
use mathlib.Core.Bool.{Bool, true, false, cond}
use mathlib.Core.List.{List}
use Prim.Native.Nat.{ℕ, ◌+◌, ◌*◌, ◌≤◌}
use native.Mathlib.Omega.{arith}
use lib.ListN.{length}
use lib.Ieee.{Float}
use Rattle.block.specs.declared.header.Header.{Header}
use Rattle.lists.specs.Parts.{spliced}
use Rattle.mesh.specs.declared.texture.Fit.{Fit}
use Rattle.mesh.specs.Extrusion.{extrusion_of, extrusion_points, cap_fit}
use Rattle.tables.specs.declared.layout.Plan.{Plan}
use Rattle.tables.specs.Soups.{points_in}
use Rattle.tables.specs.Listed.{Listing, Listed}
use Rattle.vertices.specs.declared.places.Widths.{Widths}
use Rattle.shaping.specs.Shared.{plain_widths}
use Rattle.shaping.proofs.Tabling.{points_put}
use Rattle.extrusion.specs.Given.{Given}
use Rattle.extrusion.specs.Listings.{Planned}
use Rattle.extrusion.specs.Corners.{Measured, Cornered}
use Rattle.extrusion.proofs.Blocks.{points_length}
use Rattle.extrusionshape.specs.Shape.{ArcsAt}

-- the points as they are put
pub points_there : {bs : List ℕ} {h : Header} {cap : ℕ} {t : Plan} (w : List ℕ) {w₁ : List ℕ} → Given bs h → Planned h cap (length w) t → w₁ ≡ spliced w t.points (extrusion_points (extrusion_of bs))
    → (length w₁ ≡ length w) × (points_in w₁ t ≡ extrusion_points (extrusion_of bs))
points_there {bs} {h} w D P p = points_put w P.room p (points_length bs h D.head ∙ ap (λ (k : ℕ). 3 * k) (sym P.spots))

-- the faces that are listed are what the textures ask
pub textures_asked : {h : Header} {cap len : ℕ} {t : Plan} {w : List ℕ} {ls : List Listing} → Planned h cap len t → t.owners + t.count + 2 * t.count ≤ length w → Listed w t ls
    → Cornered h t (t.owners + t.count) w
textures_asked P r L = let R = P.room in record { points = omega arith; faces = omega arith; room = r; within = λ c b. let q = L.within c b in omega (arith, q, P.spots) }

pub texture_none : (h : Header) {v : Widths} → v ≡ plain_widths h → h.need_uvs ≡ false → v.texture ≡ 0
unfolding plain_widths
texture_none h q e = ap (λ (v : Widths). v.texture) q ∙ ap {B = ℕ} (λ (b : Bool). cond b 2 0) e

pub measured : {bs : List ℕ} {h : Header} {floats : List Float} {at : ℕ} {fit : Fit} → Given bs h → ArcsAt bs h floats at → h.need_uvs ≡ true → fit ≡ cap_fit (extrusion_of bs).section
    → Measured bs h floats at fit
measured G a u e = record { given = G; arcs = a.held u; fitted = e }
