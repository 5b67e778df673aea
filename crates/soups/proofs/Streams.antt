-- FORMAT 2.4, 7: the corners of a face set and of a grid read their attributes by the block's streams.
use mathlib.Core.Path.{◌≡◌, refl, sym, ap, ◌∙◌}
use mathlib.Core.Bool.{Bool, true, false, ◌||◌, cond}
use mathlib.Core.Logic.{◌⊎◌, inl, inr}
use mathlib.Core.List.{List}
use Prim.Native.Nat.{ℕ}
use native.Mathlib.Omega.{arith}
use lib.Ieee.{Float}
use Rattle.lists.proofs.Options.{then_some_is}
use Rattle.bits.specs.declared.Words2.{Words2}
use Rattle.bits.specs.declared.Words4.{Words4}
use Rattle.block.specs.declared.stream.Stream.{Stream}
use Rattle.block.specs.Kind.{is_indexed}
use Rattle.block.specs.Header.{header_of}
use Rattle.block.specs.Stream.{stream_of, number_at, get3_at, get4_at}
use Rattle.block.specs.Value.{value3_at, value4_at}
use Rattle.mesh.specs.Words.{no2, no3, no4}
use Rattle.mesh.specs.Soup.{Corner}
use Rattle.mesh.proofs.Gathered.{gathered_alone}
use Rattle.mesh.specs.FaceSet.{Rest, rest_of, normal_of, colour_of, texture_by, corner_by}
use Rattle.mesh.specs.Grid.{grid_of}
use Rattle.tables.specs.Listed.{Use}
use Rattle.soups.specs.Keyed.{Reads}
use Rattle.soups.specs.Attributes.{attributes_of, face_widths, Streamed}

-- a corner at its use, with a default texture by its point
abbrev pub corner_use : Words4 → Rest → List ℕ → (ℕ → Words2) → ℕ → Use → Corner
corner_use missing R coord default num u = corner_by missing R coord num u.place u.point (default u.point)

module _ (missing : Words4) (R : Rest) (bs coord : List ℕ) (floats : List Float) (default : ℕ → Words2) (S : Streamed bs R) where
  normal_read : R.head.normals ≡ true → (n k : ℕ) → normal_of R coord n k ≡ get3_at bs coord (stream_of R.head R.head.normal_per_vertex 4) k n no3
  unfolding normal_of stream_of
  normal_read e n k =
      ap (λ (b : Bool). cond b (value3_at R.normals (number_at R.normal_index coord R.head.normal_per_vertex k n) no3) no3) e
      ∙ (λ i. value3_at (S.normals i) (number_at (S.normal_index i) coord R.head.normal_per_vertex k n) no3)

  colour_read : R.head.colors ≡ true → (n k : ℕ) → colour_of missing R coord n k ≡ get4_at bs coord (stream_of R.head R.head.color_per_vertex 2) R.head.alpha k n missing
  unfolding colour_of stream_of
  colour_read e n k =
      ap (λ (b : Bool). cond b (value4_at R.colours R.head.alpha (number_at R.colour_index coord R.head.color_per_vertex k n) missing) no4) e
      ∙ (λ i. value4_at (S.colours i) R.head.alpha (number_at (S.colour_index i) coord R.head.color_per_vertex k n) missing)

  colour_none : R.head.colors ≡ false → (n k : ℕ) → colour_of missing R coord n k ≡ no4
  unfolding colour_of
  colour_none e n k = ap (λ (b : Bool). cond b (value4_at R.colours R.head.alpha (number_at R.colour_index coord R.head.color_per_vertex k n) missing) no4) e

  pub reads_of : Reads (record { block = bs; coord = coord; floats = floats }) (attributes_of missing R.head) (face_widths R.head) 0 (corner_use missing R coord default)
  unfolding attributes_of face_widths corner_by
  reads_of = record {
    point = λ n u. (refl, sym (gathered_alone u.point));
    given = λ s e n u.
        let p = then_some_is R.head.normals (stream_of R.head R.head.normal_per_vertex 4) s e in
        normal_read p.0 n u.place ∙ ap (λ (s : Stream). get3_at bs coord s u.place n no3) p.1;
    normal = refl;
    colour = go R.head.colors refl;
  }
    where
      go : (b : Bool) → R.head.colors ≡ b
          → ((◌≡◌ {A = ℕ} (cond R.head.colors 4 0) 4) × ((n : ℕ) (u : Use) → colour_of missing R coord n u.place ≡ get4_at bs coord (stream_of R.head R.head.color_per_vertex 2) R.head.alpha u.place n missing))
          ⊎ ((◌≡◌ {A = ℕ} (cond R.head.colors 4 0) 0) × ((n : ℕ) (u : Use) → colour_of missing R coord n u.place ≡ no4))
      go true e = inl (ap (λ (b : Bool). cond b 4 0) e, λ n u. colour_read e n u.place)
      go false e = inr (ap (λ (b : Bool). cond b 4 0) e, λ n u. colour_none e n u.place)

-- FORMAT 5, 7: where no texture is made, there is none
pub untextured : (R : Rest) (coord : List ℕ) (n k : ℕ) (d : Words2) → (face_widths R.head).texture ≡ 0 → texture_by R coord n k d ≡ no2
unfolding texture_by face_widths
untextured R coord n k d e = go R.head.need_uvs R.head.texture_points _ _ e
  where
    go : (u p : Bool) (a b : Words2) → ◌≡◌ {A = ℕ} (cond (u || p) 2 0) 0 → cond p a (cond u b no2) ≡ no2
    go false false a b e = refl
    go false true a b e = let z : ⊥ = omega arith in absurd z
    go true p a b e = let z : ⊥ = omega arith in absurd z

module _ (bs : List ℕ) where
  pub rest_streamed : is_indexed (header_of bs).kind ≡ true → Streamed bs (rest_of bs)
  unfolding rest_of stream_of
  rest_streamed h = record {
    colours = refl;
    colour_index = rw h refl;
    normals = refl;
    normal_index = rw h refl;
    textures = refl;
    texture_index = rw h refl;
  }

  pub grid_streamed : is_indexed (header_of bs).kind ≡ false → Streamed bs (grid_of bs)
  unfolding grid_of stream_of
  grid_streamed h = record {
    colours = refl;
    colour_index = rw h refl;
    normals = refl;
    normal_index = rw h refl;
    textures = refl;
    texture_index = rw h refl;
  }
