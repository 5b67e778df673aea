-- What is left in the tables of a shape.
use mathlib.Core.Path.{◌≡◌, ◌∙◌}
use mathlib.Core.Bool.{Bool}
use mathlib.Core.List.{List}
use Prim.Native.Nat.{ℕ, ◌+◌, ◌*◌, ◌≤◌, ◌<◌}
use native.Mathlib.Omega.{arith}
use native.Mathlib.Nat.{le_refl}
use lib.ListN.{length, take}
use lib.Ieee.{Float}
use Rattle.std.specs.Prelude.{is_some}
use Rattle.bits.specs.declared.Words2.{Words2}
use Rattle.block.specs.declared.crease.CreaseRule.{CreaseRule}
use Rattle.lists.specs.Parts.{spliced}
use Rattle.lists.proofs.Keep.{kept_all, kept_seg}
use Rattle.lists.proofs.Splices.{put_gives}
use Rattle.tables.specs.declared.layout.Plan.{Plan}
use Rattle.tables.specs.Layout.{Room}
use Rattle.tables.specs.Soups.{owner_in, points_in}
use Rattle.tables.specs.Listed.{Use, Listing, Beside, Listed}
use Rattle.tables.proofs.Besides.{beside_kept}
use Rattle.tables.proofs.Stays.{points_kept}
use Rattle.tables.proofs.Listings.{listed_sound, listed_kept}
use Rattle.corners.specs.Laid.{tables_of}
use Rattle.corners.specs.Corner.{texture_at}
use Rattle.soups.specs.Prepared.{Prepared}
use Rattle.build.specs.declared.shared.Shared.{Shared}
use Rattle.texture.specs.Textured.{texture_words}
use Rattle.texture.proofs.Filled as filled
use Rattle.shaping.specs.Tabled.{Tabled, use_in, TexturesAt}

-- the points, put whole at their place
pub points_put : {points : List ℕ} {t : Plan} (w : List ℕ) {w₁ : List ℕ} → Room (length w) t → w₁ ≡ spliced w t.points points → length points ≡ 3 * t.spots
    → (length w₁ ≡ length w) × (points_in w₁ t ≡ points)
unfolding points_in
points_put {points} w R p n = let G = put_gives points p n (omega (arith, R)) in (G.0.len, G.1)

-- floats behind the normals may change
pub prepared_front : {supplied ccw : Bool} {rule : CreaseRule} {t : Plan} {v w : List ℕ} {d e e' : List Float} → Prepared supplied ccw rule t v w d e → take (3 * t.count) e' ≡ take (3 * t.count) e
    → Prepared supplied ccw rule t v w d e'
prepared_front P q = record { kept = P.kept; numbers = P.numbers; normals = q ∙ P.normals }

module _ {points : List ℕ} {ls : List Listing} {sh : Shared} {rule : CreaseRule} {t : Plan} where
  -- the points, then the faces, then what is made ready
  pub tabled : {w w₁ w₂ w₃ : List ℕ} {d d₁ e : List Float} → Room (length w) t → (length w₁ ≡ length w) × (points_in w₁ t ≡ points) → Beside t w₁ w₂ → Listed w₂ t ls
      → Prepared (is_some sh.attributes.normals) sh.ccw rule t w₂ w₃ d₁ e → length e ≡ length d → Tabled points ls sh rule t w w₃ d e
  unfolding points_in
  tabled {w} {w₁} {w₂} {w₃} {d} {d₁} R G B E Q n =
      let l = G.0 in
      let K = beside_kept R B in
      record {
        len = Q.kept.len ∙ K.len ∙ l;
        size = n;
        listed = w₂;
        before = d₁;
        faces = E;
        points = kept_seg K t.points (3 * t.spots) R.points (omega arith) ∙ G.1;
        prepared = Q;
      }

  module _ {w w' : List ℕ} {d e : List Float} (T : Tabled points ls sh rule t w w' d e) where
    -- the faces and the points are still there
    pub faces_held : Listed w' t ls
    faces_held = listed_kept T.prepared.kept (le_refl t.owners) T.faces

    pub points_held : points_in w' t ≡ points
    points_held = let R = T.faces.room in points_kept T.prepared.kept t (omega arith) (listed_sound T.faces) ∙ T.points

module _ {sh : Shared} {f : ℕ → Use → Words2} {t : Plan} where
  pub textures_none : {w : List ℕ} → sh.widths.texture ≡ 0 → TexturesAt sh f t w w
  textures_none e = record { kept = kept_all; at = λ p c l. let z : ⊥ = omega arith in absurd z }

  -- g c is what is written for corner c
  pub textures_put : {g : ℕ → Words2} {w w' : List ℕ} → t.owners + t.count + 2 * t.count ≤ length w → w' ≡ spliced w (t.owners + t.count) (texture_words g t.count)
      → ((c : ℕ) → c < t.count → g c ≡ f (owner_in w t c) (use_in w t c)) → TexturesAt sh f t w w'
  unfolding texture_at tables_of
  textures_put {g} {w} r e q = let T = filled.textures_put w (t.owners + t.count) t.count g r e in record { kept = T.0; at = λ p c l. T.1 c l ∙ q c l }
