-- Blocks that agree in the bits ahead of the lists have the same header and the same twelve words.
use Prim.Native.Nat.{ℕ, ◌+◌, ◌*◌, ◌≤◌, ◌<◌}
use mathlib.Core.Path.{◌≡◌, ap, ◌∙◌}
use mathlib.Core.List.{List, [], ◌∷◌}
use native.Mathlib.Omega.{arith}
use lib.Dec.{lit<, eqb}
use lib.Ieee.{binary32, of_bits}
use Rattle.bits.specs.Bits.{field}
use Rattle.math.specs.Vector.{zero_f, one_f}
use Rattle.block.specs.declared.edition.Edition.{Edition}
use Rattle.block.specs.Edition.{edition_of, edition_in, counts_at, zeros_at, words_ahead}
use Rattle.block.specs.Kind.{kind_of}
use Rattle.block.specs.Header.{count_at, counts_of, header_of}
use Rattle.block.specs.Settings.{float_at, finite_or, finite_transform, transform_of, settings_of}
use Rattle.block.specs.Crease.{crease_of}
use Rattle.block.proofs.EditionLaws.{header_full, count_ahead}

module _ (b c : List ℕ) (same : (i n : ℕ) → i + n ≤ 32 * words_ahead (edition_in b) → field b i n ≡ field c i n) where
  -- the header's own bits, and at least its first word
  head : (i n : ℕ) → i + n ≤ 32 * (edition_in b).header_words → field b i n ≡ field c i n
  head i n h = same i n (omega arith)

  front : (i n : ℕ) → i + n ≤ 32 → field b i n ≡ field c i n
  front i n h = same i n (omega arith)

  edition_same : edition_in b ≡ edition_in c
  edition_same = ap edition_of (front 0 4 (omega arith))

  count_same : (k : ℕ) → k < 8 → count_at b (edition_in b).count_bits k ≡ count_at c (edition_in c).count_bits k
  count_same k h = head (counts_at + k * (edition_in b).count_bits) (edition_in b).count_bits (count_ahead (field b 0 4) k h) ∙ ap (λ (e : Edition). count_at c e.count_bits k) edition_same

  zeros_same : field b (zeros_at (edition_in b)) (edition_in b).zero_bits ≡ field c (zeros_at (edition_in c)) (edition_in c).zero_bits
  zeros_same =
      head (zeros_at (edition_in b)) (edition_in b).zero_bits (omega (arith, header_full (field b 0 4)))
      ∙ ap (λ (e : Edition). field c (zeros_at e) e.zero_bits) edition_same

  flag : (i : ℕ) → i < 32 → field b i 1 ≡ field c i 1
  flag i h = front i 1 (omega arith)

  pub header_same : header_of b ≡ header_of c
  unfolding header_of counts_of
  header_same = λ t. record {
    edition = front 0 4 (omega arith) t;
    kind = kind_of (front 4 3 (omega arith) t);
    ccw = eqb (flag 7 (lit< tt) t) 1;
    convex = eqb (flag 8 (lit< tt) t) 1;
    solid = eqb (flag 9 (lit< tt) t) 1;
    color_per_vertex = eqb (flag 10 (lit< tt) t) 1;
    normal_per_vertex = eqb (flag 11 (lit< tt) t) 1;
    need_uvs = eqb (flag 12 (lit< tt) t) 1;
    transformed = eqb (flag 13 (lit< tt) t) 1;
    colors = eqb (flag 14 (lit< tt) t) 1;
    alpha = eqb (flag 15 (lit< tt) t) 1;
    normals = eqb (flag 16 (lit< tt) t) 1;
    texture_points = eqb (flag 17 (lit< tt) t) 1;
    begin_cap = eqb (flag 18 (lit< tt) t) 1;
    end_cap = eqb (flag 19 (lit< tt) t) 1;
    counts = count_same 0 (lit< tt) t ∷ count_same 1 (lit< tt) t ∷ count_same 2 (lit< tt) t ∷ count_same 3 (lit< tt) t ∷ count_same 4 (lit< tt) t ∷ count_same 5 (lit< tt) t ∷ count_same 6 (lit< tt) t ∷ count_same 7 (lit< tt) t ∷ [];
    zeros = zeros_same t;
  }

  float_same : (k : ℕ) → k < 12 → float_at b k ≡ float_at c k
  float_same k h =
      ap (of_bits binary32) (same (32 * ((edition_in b).header_words + k)) 32 (omega arith))
      ∙ ap (λ (e : Edition). of_bits binary32 (field c (32 * (e.header_words + k)) 32)) edition_same

  pub settings_same : settings_of b ≡ settings_of c
  unfolding settings_of transform_of
  settings_same = λ t. record {
    crease = crease_of (finite_or (float_same 0 (lit< tt) t) zero_f) (float_same 1 (lit< tt) t);
    x_spacing = finite_or (float_same 2 (lit< tt) t) one_f;
    z_spacing = finite_or (float_same 3 (lit< tt) t) one_f;
    transform = finite_transform
        (record {
          center = record { s = float_same 4 (lit< tt) t; t = float_same 5 (lit< tt) t };
          sine = float_same 6 (lit< tt) t;
          cosine = float_same 7 (lit< tt) t;
          scale = record { s = float_same 8 (lit< tt) t; t = float_same 9 (lit< tt) t };
          translation = record { s = float_same 10 (lit< tt) t; t = float_same 11 (lit< tt) t };
        });
  }
