-- FORMAT 3, 4, 5: a refused call and a call that nothing refuses, each as the contract says it; and that the contract leaves nothing open.
use mathlib.Core.Path.{◌≡◌, refl, sym, ap, subst, ◌∙◌}
use mathlib.Core.Bool.{false}
use mathlib.Core.List.{List}
use Prim.Native.Nat.{ℕ, zero, suc}
use native.Mathlib.Omega.{arith}
use Rattle.bits.specs.declared.Words4.{Words4}
use Rattle.block.specs.declared.header.Header.{Header}
use Rattle.block.specs.declared.refusal.Refusal.{Refusal}
use Rattle.block.specs.Header.{header_of}
use Rattle.block.specs.Refusal.{number_of}
use Rattle.block.proofs.Table.{number_one_to_one}
use Rattle.mesh.specs.Result.{Result, block_mesh, made, result_of}
use Rattle.lent.specs.declared.Counts.{Counts}
use Rattle.lent.specs.Lent.{Shaped, Cleared}
use Rattle.sizes.specs.declared.flags.Flags.{Flags}
use Rattle.sizes.specs.Flagged.{Flagged}
use Rattle.lent.specs.Answer.{Answer}
use Rattle.std.specs.Prelude.{Err, Ok}
use Rattle.geometry.specs.declared.answer.Call.{Call}
use Rattle.lent.specs.declared.answer.Report.{Report}
use Rattle.lent.specs.Answer as spec
use Rattle.lent.specs.Answer.{Saying, saying}
use Rattle.geometry.specs.Answer.{refusal, result_for}
use Rattle.geometry.specs.Converted.{Lending, lengths_of, Converted}

-- ---- refused

-- FORMAT 3: the first row's number is the answer, and every lent slice is as it was
pub refused_call : (call : Call) (bs : List ℕ) (l : Lending) (n : Refusal) → number_of n ≡ refusal bs (lengths_of l) → (number_of n ≡ 0 → ⊥) → Converted call bs l l (Err n)
refused_call call bs l n e a = go (refusal bs (lengths_of l)) refl
  where
    go : (k : ℕ) → k ≡ refusal bs (lengths_of l) → Converted call bs l l (Err n)
    go zero q = absurd (a (e ∙ sym q))
    go (suc k) q = record {
      answer = rw (← q) (ap spec.refused (e ∙ sym q));
      slices = rw (← q);
      words = rw (← q);
      floats = rw (← q);
    }

-- ---- not refused

-- the counts and bits as the code reports them
abbrev pub report_of : Counts → Flags → Report
report_of n f = record { vertices = n.vertices; indices = n.indices; solid = f.solid; unlit = f.unlit; has_colors = f.has_colors }

module _ (call : Call) (bs : List ℕ) (l m : Lending) (n : Counts) (f : Flags) (z : refusal bs (lengths_of l) ≡ 0) where
  made_result : Shaped (header_of bs) (block_mesh call.colour bs) l.slices m.slices n → Flagged (header_of bs) f
      → saying (Ok (report_of n f)) ≡ spec.made (result_for call bs)
  unfolding result_for result_of
  made_result S F =
      ap spec.made (λ i. record {
        vertices = S.vertices i;
        indices = S.count i;
        solid = F.solid (block_mesh call.colour bs) i;
        unlit = F.unlit (block_mesh call.colour bs) i;
        has_colours = F.has_colours (block_mesh call.colour bs) i;
      })

  made_of : Shaped (header_of bs) (block_mesh call.colour bs) l.slices m.slices n → Cleared l.words m.words l.floats m.floats → Flagged (header_of bs) f
      → Converted call bs l m (Ok (report_of n f))
  unfolding made
  made_of S C F = record {
    answer = rw z (made_result S F);
    slices = rw z S.slices;
    words = rw z C.words;
    floats = rw z C.floats;
  }

  -- FORMAT 5: w is what stands for a missing colour
  pub made_call : (h : Header) (w : Words4) → h ≡ header_of bs → w ≡ call.colour
      → Shaped h (block_mesh w bs) l.slices m.slices n × Cleared l.words m.words l.floats m.floats → Flagged h f
      → Converted call bs l m (Ok (report_of n f))
  made_call h w eh ew S F =
      made_of (subst (λ (h : Header). Shaped h (block_mesh call.colour bs) l.slices m.slices n) eh (subst (λ (w : Words4). Shaped h (block_mesh w bs) l.slices m.slices n) ew S.0)) S.1
      (subst (λ (h : Header). Flagged h f) eh F)

-- ---- two converters that keep the contract do not differ

-- what an answer says, taken apart: one more than the number of a refusal, 0 for a mesh; and the result
abbrev pub number_in : Saying → ℕ
number_in (spec.refused n) = suc n
number_in (spec.made r) = 0

abbrev pub result_in : Result → Saying → Result
result_in other (spec.refused n) = other
result_in other (spec.made r) = r

saying_one_to_one : (r r' : Answer) → saying r ≡ saying r' → r ≡ r'
saying_one_to_one (Err a) (Err b) e = ap Err (number_one_to_one a b (let z : suc (number_of a) ≡ suc (number_of b) = ap number_in e in omega arith))
saying_one_to_one (Err a) (Ok p) e = absurd (let z : suc (number_of a) ≡ 0 = ap number_in e in omega arith)
saying_one_to_one (Ok p) (Err b) e = absurd (let z : 0 ≡ suc (number_of b) = ap number_in e in omega arith)
saying_one_to_one (Ok p) (Ok q) e =
    let other : Result = record { vertices = 0; indices = 0; solid = false; unlit = false; has_colours = false } in
    let z = ap (result_in other) e in
    ap Ok (λ i. record { vertices = (z i).vertices; indices = (z i).indices; solid = (z i).solid; unlit = (z i).unlit; has_colors = (z i).has_colours })

-- FORMAT 3, 5: under one `Call`, one block and one lending have one answer, and leave the lent slices one way
pub alike : {call : Call} {bs : List ℕ} {l m m' : Lending} {r r' : Answer} → Converted call bs l m r → Converted call bs l m' r' → (m ≡ m') × (r ≡ r')
alike {r = r} {r' = r'} C D = (
  (λ i. record {
    slices = (C.slices ∙ sym D.slices) i;
    words = (C.words ∙ sym D.words) i;
    floats = (C.floats ∙ sym D.floats) i;
  }),
  saying_one_to_one r r' (C.answer ∙ sym D.answer),
)
