-- What a call with full slices shows, by its answer.
use Prim.Native.Nat.{ℕ}
use mathlib.Core.Path.{◌≡◌, sym, ap, ◌∙◌}
use mathlib.Core.List.{List}
use lib.ListN.{get_or}
use Rattle.block.specs.declared.refusal.Refusal.{Refusal}
use Rattle.block.specs.Refusal.{number_of}
use Rattle.mesh.specs.Mesh.{Slices}
use Rattle.lent.specs.Answer.{Answer}
use Rattle.std.specs.Prelude.{Err, Ok}
use Rattle.lent.specs.declared.answer.Report.{Report}
use Rattle.lent.specs.Answer.{saying}
use Rattle.geometry.specs.Converted.{Lending, Converted}
use Rattle.limits.specs.Shown.{passed, full, number_in, indices_in, left, Shows}

module _ {bs : List ℕ} {m : Lending} {r : Answer} (C : Converted passed bs full m r) where
  -- the first three indices are read from what was left
  shows_by : (number indices : ℕ) → number ≡ number_in (saying r) → indices ≡ indices_in (saying r)
      → Shows bs (record { number = number; indices = indices; a = get_or m.slices.indices 0 0; b = get_or m.slices.indices 1 0; c = get_or m.slices.indices 2 0 })
  unfolding left
  shows_by number indices n i =
      record {
        number = n ∙ ap number_in C.answer;
        indices = i ∙ ap indices_in C.answer;
        a = ap (λ (l : List ℕ). get_or l 0 0) (ap (λ (S : Slices). S.indices) C.slices);
        b = ap (λ (l : List ℕ). get_or l 1 0) (ap (λ (S : Slices). S.indices) C.slices);
        c = ap (λ (l : List ℕ). get_or l 2 0) (ap (λ (S : Slices). S.indices) C.slices);
      }

  pub shows_refused : {no : Refusal} {k : ℕ} → r ≡ Err no → k ≡ number_of no
      → Shows bs (record { number = k; indices = 0; a = get_or m.slices.indices 0 0; b = get_or m.slices.indices 1 0; c = get_or m.slices.indices 2 0 })
  shows_refused {no} {k} e q = shows_by k 0 (q ∙ sym (ap (λ (r : Answer). number_in (saying r)) e)) (sym (ap (λ (r : Answer). indices_in (saying r)) e))

  pub shows_made : {p : Report} → r ≡ Ok p
      → Shows bs (record { number = 0; indices = p.indices; a = get_or m.slices.indices 0 0; b = get_or m.slices.indices 1 0; c = get_or m.slices.indices 2 0 })
  shows_made {p} e = shows_by 0 p.indices (sym (ap (λ (r : Answer). number_in (saying r)) e)) (sym (ap (λ (r : Answer). indices_in (saying r)) e))
