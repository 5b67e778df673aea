-- FORMAT 5, 7, 8: shapes whose corners read the block's lists, and shapes whose block lists no attribute.
use mathlib.Core.Path.{◌≡◌, refl, sym, ap, ◌∙◌}
use mathlib.Core.Bool.{Bool, true, false, ◌||◌, cond}
use mathlib.Core.Logic.{inr}
use mathlib.Core.List.{List}
use Prim.Native.Nat.{ℕ, ◌≤◌, ◌<◌}
use native.Mathlib.Omega.{arith}
use lib.ListN.{length, get_or}
use Rattle.std.proofs.lemmas.Option.{none-some}
use Rattle.lists.proofs.Options.{is_some_then}
use Rattle.bits.specs.declared.Words2.{Words2}
use Rattle.bits.specs.declared.Words4.{Words4}
use Rattle.block.specs.declared.crease.CreaseRule.{CreaseRule}
use Rattle.block.specs.declared.header.Header.{Header}
use Rattle.block.specs.Stream.{stream_of}
use Rattle.mesh.specs.Words.{no2, no4}
use Rattle.mesh.specs.Soup.{Corner, gathered}
use Rattle.mesh.specs.FaceSet.{Rest, corner_by}
use Rattle.mesh.specs.Result.{makes_normals, makes_colours, makes_textures}
use Rattle.tables.specs.Listed.{Use, Listing, no_use, no_listing, uses_at}
use Rattle.vertices.specs.Places.{colour_words, texture_words}
use Rattle.soups.specs.Attributes.{attributes_of, face_widths, Streamed}
use Rattle.soups.proofs.Streams.{corner_use, reads_of, untextured}
use Rattle.texture.specs.Corner.{texture_in}
use Rattle.texture.proofs.Streams.{texture_rest}
use Rattle.shaping.specs.Shared.{listed_shared, plain_widths, plain_attributes, plain_shared, frame_by}
use Rattle.shaping.specs.Shape.{Shape}

-- the frame of listed faces: normals are supplied where the block lists them
pub listed_frame : (points : List ℕ) (missing : Words4) (convex : Bool) (h : Header) (rule : CreaseRule)
    → frame_by points (listed_shared missing convex h) rule ≡ record { points = points; ccw = h.ccw; convex = convex; supplied = h.normals; crease = rule }
unfolding frame_by listed_shared attributes_of
listed_frame points missing convex h rule =
    λ i. record { points = points; ccw = h.ccw; convex = convex; supplied = is_some_then h.normals (stream_of h h.normal_per_vertex 4) i; crease = rule }

-- `default` is the default texture of a point; f may go by the point alone where that is the place too
pub listed_shape : (missing : Words4) (R : Rest) (bs coord : List ℕ) (default : ℕ → Words2) (convex : Bool) (ls : List Listing) {f : ℕ → Use → Words2} → Streamed bs R
    → (makes_normals R.head ≡ true) × (makes_colours R.head ≡ R.head.colors) × (makes_textures R.head ≡ (R.head.need_uvs || R.head.texture_points))
    → ((j : ℕ) → j < length ls → 3 ≤ length (uses_at ls j))
    → ((j i : ℕ) → j < length ls → i < length (uses_at ls j)
    → f (get_or ls j no_listing).number (get_or (uses_at ls j) i no_use) ≡ texture_in bs coord R.head R.settings (get_or (uses_at ls j) i no_use).place (default (get_or (uses_at ls j) i no_use).point))
    → Shape bs coord R.head (listed_shared missing convex R.head) 0 ls f (corner_use missing R coord default)
unfolding listed_shared face_widths corner_by
listed_shape missing R bs coord default convex ls S K long same = record {
  long = long;
  reads = λ floats. reads_of missing R bs coord floats default S;
  texture = λ j i h b.
      let u = get_or (uses_at ls j) i no_use in
      same j i h b ∙ texture_rest bs coord R (get_or ls j no_listing).number u.place (default u.point) S.textures S.texture_index;
  bare = λ e n u. untextured R coord n u.place (default u.point) e;
  normals = K.0;
  colours = ap (λ (b : Bool). cond b colour_words 0) (sym K.1);
  textures = ap (λ (b : Bool). cond b texture_words 0) (sym K.2);
}

-- no normal is supplied, and there is no colour
pub plain_shape : (bs coord : List ℕ) (h : Header) (convex : Bool) (ring : ℕ) (ls : List Listing) {f : ℕ → Use → Words2} {corner : ℕ → Use → Corner}
    → (makes_normals h ≡ true) × (makes_colours h ≡ false) × (makes_textures h ≡ h.need_uvs)
    → ((j : ℕ) → j < length ls → 3 ≤ length (uses_at ls j))
    → ((n : ℕ) (u : Use) → ((corner n u).point ≡ u.point) × ((corner n u).gather ≡ gathered ring u.point)) → ((n : ℕ) (u : Use) → (corner n u).colour ≡ no4)
    → ((j i : ℕ) → j < length ls → i < length (uses_at ls j)
    → f (get_or ls j no_listing).number (get_or (uses_at ls j) i no_use) ≡ (corner (get_or ls j no_listing).number (get_or (uses_at ls j) i no_use)).texture)
    → (h.need_uvs ≡ false → (n : ℕ) (u : Use) → (corner n u).texture ≡ no2)
    → Shape bs coord h (plain_shared convex h) ring ls f corner
unfolding plain_shared plain_widths plain_attributes
plain_shape bs coord h convex ring ls {corner = corner} K long at bleak same bare = record {
  long = long;
  reads = λ floats. record { point = at; given = λ s e. absurd (none-some s e); normal = refl; colour = inr (refl, bleak) };
  texture = same;
  bare = go h.need_uvs refl;
  normals = K.0;
  colours = ap (λ (b : Bool). cond b colour_words 0) (sym K.1);
  textures = ap (λ (b : Bool). cond b texture_words 0) (sym K.2);
}
  where
    go : (b : Bool) → h.need_uvs ≡ b → ◌≡◌ {A = ℕ} (cond h.need_uvs texture_words 0) 0 → (n : ℕ) (u : Use) → (corner n u).texture ≡ no2
    go true q e = let t = ap {B = ℕ} (λ (b : Bool). cond b texture_words 0) q in let z : ⊥ = omega (arith, t, e) in absurd z
    go false q e = bare q
