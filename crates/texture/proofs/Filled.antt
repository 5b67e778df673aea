-- The table of textures: the loop that writes it, and how it is read.
use mathlib.Core.Path.{◌≡◌, refl, sym, ap, ◌∙◌}
use mathlib.Core.Bool.{true}
use mathlib.Core.List.{List}
use Prim.Native.Nat.{ℕ, ◌+◌, ◌*◌, ◌≤◌, ◌<◌}
use native.Mathlib.Nat.{add-zero}
use native.Mathlib.Omega.{arith}
use lib.ListN.{length, get_or, drop, take}
use Rattle.bits.specs.declared.Words2.{Words2}
use Rattle.block.specs.declared.header.Header.{Header}
use Rattle.block.specs.declared.settings.Settings.{Settings}
use Rattle.mesh.specs.declared.texture.Fit.{Fit}
use Rattle.mesh.specs.Texture.{default_at}
use Rattle.mesh.specs.Words.{words2}
use Rattle.lists.specs.Parts.{seg, spliced, Kept}
use Rattle.lists.proofs.Keep.{kept_at, kept_seg, seg_at}
use Rattle.lists.proofs.Splices.{put_kept}
use Rattle.lists.proofs.Pieces.{length_pieces, piece_put}
use Rattle.tables.specs.declared.layout.Plan.{Plan}
use Rattle.tables.specs.Soups.{point_in, place_in, points_in}
use Rattle.texture.specs.Corner.{texture_in}
use Rattle.texture.specs.Textured.{pair_at, set_texture, Fitted, texture_words}

-- where texture points are listed the default is not looked at
pub listed_any : (bs coord : List ℕ) (h : Header) (s : Settings) (place : ℕ) (d e : Words2) → h.texture_points ≡ true
    → texture_in bs coord h s place d ≡ texture_in bs coord h s place e
unfolding texture_in
listed_any bs coord h s place d e y = rw y

-- the words of a texture, read back
pair_put : (w : List ℕ) (a : ℕ) (v : Words2) → seg w a 2 ≡ words2 v → pair_at w a ≡ v
pair_put w a v e =
    let at : (i : ℕ) → i < 2 → get_or w (a + i) 0 ≡ get_or (words2 v) i 0 = λ i b. sym (seg_at w a 2 i b) ∙ ap (λ (l : List ℕ). get_or l i 0) e in
    let x : get_or w a 0 ≡ v.s = ap (λ (k : ℕ). get_or w k 0) (sym (add-zero a)) ∙ at 0 (omega arith) in
    let y : get_or w (a + 1) 0 ≡ v.t = at 1 (omega arith) in
    λ i. record { s = x i; t = y i }

-- what was put, read again: what stands below is kept, and each corner has its texture
pub textures_put : (l : List ℕ) (a n : ℕ) (f : ℕ → Words2) {m : List ℕ} → a + 2 * n ≤ length l → m ≡ spliced l a (texture_words f n)
    → Kept a l m × ((c : ℕ) → c < n → pair_at m (a + 2 * c) ≡ f c)
unfolding seg
textures_put l a n f {m} h e =
    let F : ℕ → List ℕ = λ (c : ℕ). words2 (f c) in
    let at : (c : ℕ) → c < n → seg m (a + 2 * c) 2 ≡ words2 (f c) = λ c b.
    let s : a + 2 * c ≡ a + c * 2 = omega arith in ap (λ (k : ℕ). take 2 (drop k m)) s ∙ piece_put F 2 (λ t. refl) l a n (omega arith) e c b in
    (put_kept l a (texture_words f n) e (length_pieces F 2 (λ t. refl) n) (omega arith), λ c b. pair_put m (a + 2 * c) (f c) (at c b))

-- ---- the loop over a face set's corners reads tables that stand below what it writes
module _ {w₀ w : List ℕ} {t : Plan} {textures : ℕ} (F : Fitted w₀ t textures) (K : Kept textures w₀ w) {c : ℕ} (h : c < t.count) where
  point_read : point_in w t c ≡ point_in w₀ t c
  unfolding point_in
  point_read = kept_at K (t.corners + c) (omega (arith, F.corners_below))

  pub point_within : {p : ℕ} → p ≡ get_or w (t.corners + c) 0 → p < t.spots
  unfolding point_in
  point_within e = omega (arith, e, point_read, F.within c h)

  pub texture_read : (fit : Fit) (bs coord : List ℕ) (head : Header) (s : Settings) {v : Words2} {p k : ℕ} → p ≡ get_or w (t.corners + c) 0 → k ≡ get_or w (t.places + c) 0
      → v ≡ texture_in bs coord head s k (default_at (points_in w t) fit p) → v ≡ set_texture bs coord head s fit w₀ t c
  unfolding set_texture point_in place_in points_in
  texture_read fit bs coord head s ep ek e =
      let x = ep ∙ point_read in
      let y = ek ∙ kept_at K (t.places + c) (omega (arith, F.places_below)) in
      let z = kept_seg K t.points (3 * t.spots) F.points_below (omega (arith, F.points_below, F.room)) in
      e ∙ (λ i. texture_in bs coord head s (y i) (default_at (z i) fit (x i)))
