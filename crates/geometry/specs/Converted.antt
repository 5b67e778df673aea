-- FORMAT 3, 4, 5: what one call promises: its answer, and each lent slice after it.
use Rattle.std.specs.Prelude.{ℕ, zero, suc, ◌≡◌, List, length, replicate, Float}
use Rattle.std.specs.Float.{binary32}
use Rattle.std.specs.Float.Ieee.{of_bits}
use Rattle.mesh.specs.Mesh.{Slices}
use Rattle.mesh.specs.Result.{made}
use Rattle.lent.specs.Answer.{Answer}
use Rattle.lent.specs.declared.buffers.Buffers.{Buffers}
use Rattle.lent.specs.Buffers.{slices_in}
use Rattle.geometry.specs.declared.answer.Call.{Call}
use Rattle.geometry.specs.declared.answer.Lengths.{Lengths}
use Rattle.lent.specs.Answer.{saying, said, after_all}
use Rattle.geometry.specs.Answer.{refusal, result_for}

-- FORMAT 4: what the eight lent slices hold: the six of the mesh, and the two working slices
pub record Lending : Type 0 where
  pub slices : Slices
  pub words : List ℕ
  pub floats : List Float

-- FORMAT 4: of the slices as they are lent
abbrev pub held : Buffers → Lending
held b = record { slices = slices_in b; words = b.words.now; floats = b.floats.now }

-- FORMAT 4: their lengths
unfoldable pub lengths_of : Lending → Lengths
lengths_of l =
    record {
      positions = length l.slices.positions;
      normals = length l.slices.normals;
      colours = length l.slices.colours;
      textures = length l.slices.textures;
      sources = length l.slices.sources;
      indices = length l.slices.indices;
      words = length l.words;
      floats = length l.floats;
    }

-- FORMAT 3: the number of the refusal of a call, 0 for none
abbrev pub number_for : List ℕ → Lending → ℕ
number_for bs l = refusal bs (lengths_of l)

-- FORMAT 3, 5: a working slice after a call: where nothing is refused, zeros; else what it held
abbrev pub cleared : {A : Type 0} → ℕ → A → List A → List A
cleared zero z held = replicate (length held) z
cleared (suc n) z held = held

-- FORMAT 3, 4, 5: a call with what its caller chose, on the block bs, with l lent, left m and answered r
pub record Converted (call : Call) (bs : List ℕ) (l m : Lending) (r : Answer) : Type 0 where
  pub answer : saying r ≡ said (number_for bs l) (result_for call bs)
  pub slices : m.slices ≡ after_all (number_for bs l) (made call.colour bs) l.slices
  pub words : m.words ≡ cleared (number_for bs l) 0 l.words
  pub floats : m.floats ≡ cleared (number_for bs l) (of_bits binary32 0) l.floats
