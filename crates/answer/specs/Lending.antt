-- FORMAT 14: what the program chooses, the slices that it lends, and what a call leaves in them.
use Rattle.std.specs.Prelude.{ℕ, ◌≡◌, List, replicate}
use Rattle.std.specs.Float.{binary32}
use Rattle.std.specs.Float.Ieee.{of_bits}
use Rattle.mesh.specs.Mesh.{Slices}
use Rattle.mesh.specs.Result.{made}
use Rattle.geometry.specs.declared.answer.Call.{Call}
use Rattle.lent.specs.Answer.{saying, said, after_all}
use Rattle.geometry.specs.Answer.{white, result_for}
use Rattle.geometry.specs.Converted.{Lending, number_for}
use Rattle.answer.specs.declared.lending.Conversion.{Conversion}

-- FORMAT 14: what the program chooses
abbrev pub passed : Call
passed = record { colour = white }

-- FORMAT 14: for C and P of 256 each, and 768 indices
unfoldable pub fresh : Lending
fresh =
    record {
      slices = record {
        sources = replicate 256 0;
        positions = replicate 768 0;
        normals = replicate 768 0;
        colours = replicate 1024 0;
        textures = replicate 512 0;
        indices = replicate 768 0;
      };
      words = replicate 4104 0;
      floats = replicate 4104 (of_bits binary32 0);
    }

-- FORMAT 3, 14: the number of the refusal, 0 for none
abbrev pub number : List ℕ → ℕ
number bs = number_for bs fresh

-- FORMAT 5, 14: the six slices of the mesh after the call
unfoldable pub left : List ℕ → Slices
left bs = after_all (number bs) (made passed.colour bs) fresh.slices

-- the six slices that came back
abbrev pub slices_in : Conversion → Slices
slices_in c =
    record {
      sources = c.sources;
      positions = c.positions;
      normals = c.normals;
      colours = c.colours;
      textures = c.textures;
      indices = c.indices;
    }

-- FORMAT 14: c is the answer of the call, and what it left
pub record Left (bs : List ℕ) (c : Conversion) : Type 0 where
  pub answer : saying c.answer ≡ said (number bs) (result_for passed bs)
  pub slices : slices_in c ≡ left bs
