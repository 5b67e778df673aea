-- FORMAT 4, 6.3: how many indices the lines have: two a line.
use mathlib.Core.Path.{◌≡◌, refl, ◌∙◌}
use mathlib.Core.Bool.{Bool, true, false, cond}
use Rattle.std.specs.Prelude.{Option, None, Some, is_some}
use mathlib.Core.List.{List, [], ◌∷◌, ◌++◌}
use Prim.Native.Nat.{ℕ, suc, ◌+◌, ◌*◌}
use native.Mathlib.Omega.{arith}
use lib.Dec.{ltb}
use lib.ListN.{length, get_or, length-append}
use Rattle.block.specs.Runs.{Run, sum_over}
use Rattle.mesh.specs.Lines.{line}
use Rattle.mesh.specs.Sizes.{named, lines_after}
use Rattle.lines.specs.Steps.{vertex_at, corner_after, pairs, run_pairs}

module _ (p : ℕ) (numbers : List ℕ) where
  length_pairs : (es : List ℕ) (c : ℕ) (prev : Option ℕ) → length (pairs p numbers c prev es) ≡ 2 * lines_after p (is_some prev) es
  unfolding pairs vertex_at corner_after lines_after
  length_pairs [] c prev = refl
  length_pairs (e ∷ es) c prev = go (ltb e p) prev (get_or numbers c 0) (length_pairs es)
    where
      go : (b : Bool) (prev : Option ℕ) (n : ℕ) → ((c : ℕ) (o : Option ℕ) → length (pairs p numbers c o es) ≡ 2 * lines_after p (is_some o) es)
          → length (line prev (cond b (Some n) None) ++ pairs p numbers (cond b (suc c) c) (cond b (Some n) None) es)
          ≡ 2 * cond (is_some prev) (cond b (suc (lines_after p b es)) (lines_after p b es)) (lines_after p b es)
      go true None n ih = ih (suc c) (Some n)
      go true (Some a) n ih = omega (arith, ih (suc c) (Some n))
      go false None n ih = ih c None
      go false (Some a) n ih = ih c None

  pub length_lines : (rs : List Run) (c : ℕ) → length (run_pairs p numbers c rs) ≡ 2 * sum_over (lines_after p false) rs
  unfolding run_pairs sum_over
  length_lines [] c = refl
  length_lines (r ∷ rs) c =
      let d = c + named p r.items in
      length-append (pairs p numbers c None r.items) (run_pairs p numbers d rs) ∙ omega (arith, length_pairs r.items c None, length_lines rs d)
