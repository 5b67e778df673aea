-- FORMAT 4: slices for the largest block, and what a call with them shows.
use Rattle.std.specs.Prelude.{ℕ, ◌+◌, ◌*◌, ◌≡◌, List, get_or, replicate}
use Rattle.std.specs.Float.{binary32}
use Rattle.std.specs.Float.Ieee.{of_bits}
use Rattle.block.specs.Edition.{edition1}
use Rattle.mesh.specs.Result.{made}
use Rattle.geometry.specs.declared.answer.Call.{Call}
use Rattle.lent.specs.Answer.{Saying, refused, said, after_all}
use Rattle.geometry.specs.Answer.{white, result_for}
use Rattle.lent.specs.Answer as spec
use Rattle.geometry.specs.Converted.{Lending, number_for}
use Rattle.limits.specs.declared.full.Seen.{Seen}

-- FORMAT 7.2: what the program chooses
abbrev pub passed : Call
passed = record { colour = white }

-- FORMAT 3: as many points and corners as edition 1 allows
abbrev limit : ℕ
limit = edition1.limit

-- FORMAT 4: for so many, all zeros
unfoldable pub full : Lending
full =
    record {
      slices = record {
        sources = replicate limit 0;
        positions = replicate (3 * limit) 0;
        normals = replicate (3 * limit) 0;
        colours = replicate (4 * limit) 0;
        textures = replicate (2 * limit) 0;
        indices = replicate (3 * limit) 0;
      };
      words = replicate (16 * limit + 8) 0;
      floats = replicate (16 * limit + 8) (of_bits binary32 0);
    }

-- FORMAT 3, 5: the number of a refusal, or 0; the number of indices, 0 in a refused call
abbrev pub number_in : Saying → ℕ
number_in (refused n) = n
number_in (spec.made r) = 0

abbrev pub indices_in : Saying → ℕ
indices_in (refused n) = 0
indices_in (spec.made r) = r.indices

-- FORMAT 5: the indices after the call
unfoldable pub left : List ℕ → List ℕ
left bs = (after_all (number_for bs full) (made passed.colour bs) full.slices).indices

-- r shows what the call on bs says, and its first three indices
pub record Shows (bs : List ℕ) (r : Seen) : Type 0 where
  pub number : r.number ≡ number_in (said (number_for bs full) (result_for passed bs))
  pub indices : r.indices ≡ indices_in (said (number_for bs full) (result_for passed bs))
  pub a : r.a ≡ get_or (left bs) 0 0
  pub b : r.b ≡ get_or (left bs) 1 0
  pub c : r.c ≡ get_or (left bs) 2 0
