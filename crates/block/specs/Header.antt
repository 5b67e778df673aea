-- The header of a block: which bits of the block each of its fields is. FORMAT 2.2.
use Rattle.std.specs.Prelude.{ℕ, ◌+◌, ◌*◌, ◌≤◌, Bool, List, [], ◌∷◌, eqb}
use Rattle.bits.specs.Bits.{field}
use Rattle.block.specs.Edition.{edition_in, counts_at, zeros_at}
use Rattle.block.specs.Kind.{kind_of}
use Rattle.block.specs.declared.edition.Edition.{Edition}
use Rattle.block.specs.declared.header.Header.{Header}

-- FORMAT 2.2: a single bit
abbrev pub flag_at : List ℕ → ℕ → Bool
flag_at bs i = eqb (field bs i 1) 1

-- FORMAT 2.2: count k, of w bits each
abbrev pub count_at : List ℕ → ℕ → ℕ → ℕ
count_at bs w k = field bs (counts_at + k * w) w

-- FORMAT 2.2: the eight counts, of w bits each
unfoldable pub counts_of : List ℕ → ℕ → List ℕ
counts_of bs w = count_at bs w 0 ∷ count_at bs w 1 ∷ count_at bs w 2 ∷ count_at bs w 3 ∷ count_at bs w 4 ∷ count_at bs w 5 ∷ count_at bs w 6 ∷ count_at bs w 7 ∷ []

-- the fields of the header fit in a word
pub record Narrow (e : Edition) : Type 0 where
  pub counts : e.counts ≤ 32
  pub width : e.count_bits ≤ 32
  pub zeros : e.zero_bits ≤ 32

-- FORMAT 2.2, with the counts of the block's edition
unfoldable pub header_of : List ℕ → Header
header_of bs =
    record {
      edition = field bs 0 4;
      kind = kind_of (field bs 4 3);
      ccw = flag_at bs 7;
      convex = flag_at bs 8;
      solid = flag_at bs 9;
      color_per_vertex = flag_at bs 10;
      normal_per_vertex = flag_at bs 11;
      need_uvs = flag_at bs 12;
      transformed = flag_at bs 13;
      colors = flag_at bs 14;
      alpha = flag_at bs 15;
      normals = flag_at bs 16;
      texture_points = flag_at bs 17;
      begin_cap = flag_at bs 18;
      end_cap = flag_at bs 19;
      counts = counts_of bs (edition_in bs).count_bits;
      zeros = field bs (zeros_at (edition_in bs)) (edition_in bs).zero_bits;
    }
