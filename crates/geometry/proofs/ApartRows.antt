-- Two blocks that differ inside one run, computed: calls on them that are lent enough are accepted, so what the theorem asks can be met.
use mathlib.Core.Path.{◌≡◌, refl, sym, ap}
use mathlib.Core.List.{List}
use Prim.Native.Nat.{ℕ}
use lib.Ieee.{binary32, of_bits}
use lib.ListN.{replicate}
use Rattle.lists.specs.Loops.{tab}
use Rattle.bits.specs.Bits.{field, entries}
use Rattle.block.specs.Edition.{edition1, edition_of}
use Rattle.block.specs.Header.{counts_of, header_of}
use Rattle.block.specs.Extents.{widths, words_in, word_count, list_at, list_size, place_of}
use Rattle.block.specs.Refusal.{block_rows, first_of}
use Rattle.block.specs.Runs.{ends_run, runs_from, kept, corners, triangles, sum_over}
use Rattle.lists.specs.Lists.{flat, all_below}
use Rattle.mesh.specs.Sizes.{face_set_sizes, sizes_of, is_no_shape, is_over_corners, shape_rows}
use Rattle.mesh.specs.Result.{made}
use Rattle.mesh.specs.OneRun.{OthersStay}
use Rattle.mesh.proofs.Blocks.{flat_block, beside, beside', pairs}
use Rattle.geometry.specs.declared.answer.Call.{Call}
use Rattle.lent.specs.Answer.{said, after_all}
use Rattle.geometry.specs.Answer.{rows, is_short, refusal, result_for}
use Rattle.geometry.specs.Converted.{Lending, lengths_of, number_for, cleared}
use Rattle.geometry.specs.Apart.{AcceptedCall, elements_of}
use Rattle.geometry.proofs.Apart.{apart}

-- where nothing is refused, the call that leaves and answers what the contract says
unfoldable pub call_of : (call : Call) (bs : List ℕ) (l : Lending) → number_for bs l ≡ 0 → AcceptedCall call bs
call_of call bs l e =
    let n = number_for bs l in
    let R = result_for call bs in
    let M = made call.colour bs in
    record {
      lent = l;
      left = record {
        slices = after_all n M l.slices;
        words = cleared n 0 l.words;
        floats = cleared n (of_bits binary32 0) l.floats;
      };
      report = record { vertices = R.vertices; indices = R.indices; solid = R.solid; unlit = R.unlit; has_colors = R.has_colours };
      converted = record {
        answer = sym (ap (λ (k : ℕ). said k R) e);
        slices = refl;
        words = refl;
        floats = refl;
      };
    }

-- FORMAT 4: enough for six corners, six points and six indices, with w in every word
abbrev lending : ℕ → Lending
lending w =
    record {
      slices = record {
        sources = replicate 6 w;
        positions = replicate 18 w;
        normals = replicate 18 w;
        colours = replicate 24 w;
        textures = replicate 12 w;
        indices = replicate 6 w;
      };
      words = replicate 104 w;
      floats = replicate 104 (of_bits binary32 w);
    }

-- FORMAT 3: neither block is refused
pub accepted : (number_for (flat_block beside) (lending 0) ≡ 0) × (number_for (flat_block beside') (lending 7) ≡ 0)
unfolding refusal rows lengths_of is_short block_rows first_of shape_rows is_no_shape is_over_corners sizes_of face_set_sizes header_of counts_of edition_of edition1 field entries tab place_of list_at list_size widths words_in word_count runs_from ends_run all_below kept corners triangles sum_over flat
accepted = (refl, refl)

-- FORMAT 13: so of two calls on them under one colour, whichever, whose slices held different words before, the first face is the same
pub first_stays : (call : Call)
    → OthersStay call.colour (flat_block beside) (flat_block beside') (elements_of (call_of call (flat_block beside) (lending 0) accepted.0))
    (elements_of (call_of call (flat_block beside') (lending 7) accepted.1)) 1
unfolding header_of field flat
first_stays call = apart (flat_block beside) (flat_block beside') 1 refl pairs.0 (call_of call (flat_block beside) (lending 0) accepted.0) (call_of call (flat_block beside') (lending 7) accepted.1)
