-- What is written to the tables of a face set.
use mathlib.Core.Path.{◌≡◌, refl, ◌∙◌}
use mathlib.Core.Bool.{Bool, true, false}
use mathlib.Core.List.{List}
use Prim.Native.Nat.{ℕ, ◌+◌, ◌*◌, ◌/◌, ◌≤◌}
use native.Mathlib.Omega.{arith}
use lib.ListN.{length, take}
use lib.Seq.{length-take-le}
use Rattle.bits.specs.Bits.{entries}
use Rattle.bits.proofs.Entries.{entries_length}
use Rattle.block.specs.declared.header.Header.{Header}
use Rattle.block.specs.declared.settings.Settings.{Settings}
use Rattle.block.specs.Extents.{set_widths, widths, list_bytes}
use Rattle.lists.specs.Parts.{spliced}
use Rattle.lists.proofs.Splices.{put_gives}
use Rattle.mesh.specs.declared.texture.Fit.{Fit}
use Rattle.mesh.specs.Texture.{fit_of, default_at}
use Rattle.mesh.specs.FaceSet.{point_count}
use Rattle.tables.specs.declared.layout.Plan.{Plan}
use Rattle.tables.specs.Layout.{Room}
use Rattle.tables.specs.Soups.{point_in, place_in, owner_in, points_in}
use Rattle.tables.specs.Listed.{Listing, Listed}
use Rattle.lent.specs.Lent.{Accepted}
use Rattle.lent.proofs.Points.{points_in_lem, points_all}
use Rattle.texture.specs.Corner.{texture_in}
use Rattle.texture.specs.Textured.{set_texture}
use Rattle.texture.proofs.Filled.{listed_any}
use Rattle.shaping.specs.Tabled.{use_in}
use Rattle.facesetshape.specs.Shape.{Lists, face_set_texture, Placed}

-- the lists of an accepted block that has those of a face set
pub lists_of : {bs coord : List ℕ} {h : Header} {s : Settings} → Accepted bs h s → widths h ≡ set_widths h.alpha → coord ≡ list_bytes bs h 1 → Lists bs coord h
lists_of A v e = record { coord_is = e; room = points_in_lem A v; whole = points_all A v }

module _ (bs : List ℕ) (h : Header) {t : Plan} {list : List ℕ} (a : list ≡ list_bytes bs h 0) where
  -- what the copy of the points asks
  pub points_asked : {len : ℕ} → Room len t → t.spots ≡ point_count h → 3 * point_count h ≤ length (list_bytes bs h 0) / 4
      → (3 * t.spots ≤ length list / 4) × (t.points + 3 * t.spots ≤ len)
  points_asked R e n = (rw a (omega (arith, e, n)), omega (arith, R))

  -- and what it leaves
  pub points_copied : (w : List ℕ) {w₁ : List ℕ} → Room (length w) t → t.spots ≡ point_count h → 3 * point_count h ≤ length (list_bytes bs h 0) / 4
      → take (3 * point_count h) (entries (list_bytes bs h 0)) ≡ entries (list_bytes bs h 0)
      → w₁ ≡ spliced w t.points (take (3 * t.spots) (entries list)) → (length w₁ ≡ length w) × (points_in w₁ t ≡ entries (list_bytes bs h 0))
  unfolding points_in
  points_copied w R e n p C =
      let G = put_gives _ C (length-take-le (3 * t.spots) (entries list) (omega (arith, entries_length list, (points_asked R e n).0))) (omega (arith, R)) in
      (G.0.len, G.1 ∙ (λ i. take (3 * e i) (entries (a i))) ∙ p)

-- FORMAT 7.4: tables that list faces over these points, with room above the owners, are what the textures ask
pub textures_asked : {bs : List ℕ} {h : Header} {t : Plan} {w : List ℕ} {ls : List Listing} → t.spots ≡ point_count h → points_in w t ≡ entries (list_bytes bs h 0) → Listed w t ls
    → t.owners + t.count + 2 * t.count ≤ length w → Placed bs h t w
textures_asked {bs} {h} {t} {w} {ls} s p L r =
    let R = L.room in
    record {
      spots = s;
      points = p;
      fitted = record {
        few = R.few;
        points_below = omega arith;
        corners_below = omega arith;
        places_below = omega arith;
        room = r;
        within = L.within;
      };
    }

-- the fit, as the code has it where no texture points are listed, is that of the points
module _ {bs : List ℕ} {h : Header} {t : Plan} {w : List ℕ} {fit : Fit} (P : Placed bs h t w) (e : h.texture_points ≡ false → fit ≡ fit_of (points_in w t) t.spots) where
  pub texture_put : {coord : List ℕ} (s : Settings) → coord ≡ list_bytes bs h 1 → (c : ℕ)
      → set_texture bs coord h s fit w t c ≡ face_set_texture bs h s (owner_in w t c) (use_in w t c)
  unfolding set_texture face_set_texture
  texture_put {coord} s b c = go h.texture_points refl
    where
      points : List ℕ
      points = entries (list_bytes bs h 0)

      go : (listed : Bool) → h.texture_points ≡ listed → texture_in bs coord h s (place_in w t c) (default_at (points_in w t) fit (point_in w t c))
          ≡ texture_in bs (list_bytes bs h 1) h s (place_in w t c) (default_at points (fit_of points (point_count h)) (point_in w t c))
      go true y = rw b (listed_any _ _ _ _ _ _ _ y)
      go false y = λ i. texture_in bs (b i) h s (place_in w t c) (default_at (P.points i) ((e y ∙ (λ k. fit_of (P.points k) (P.spots k))) i) (point_in w t c))
