-- The answer that is carried from triangle to triangle is the lowest; and a call that is not refused. Assumes nothing.
use mathlib.Core.Path.{◌≡◌, refl, sym, ap, ◌∙◌}
use mathlib.Core.Bool.{Bool, true, false, ◌&&◌, cond}
use mathlib.Core.List.{List, ◌++◌}
use Prim.Native.Nat.{ℕ, zero, suc, ◌+◌, ◌/◌, ◌<◌}
use native.Mathlib.Nat.{zero-add}
use native.Mathlib.Omega.{arith}
use lib.Dec.{eqb, ltb}
use lib.Ieee.{Float}
use lib.ListN.{length, drop, replicate}
use borrow.Author.Tests.{ne_eqb, lt-ltb, le-ltb}
use Rattle.lists.specs.Updates.{updated}
use Rattle.lists.specs.Loops.{pick, tab, run, first}
use Rattle.lists.proofs.Lists.{beyond}
use Rattle.lists.proofs.Tabs.{length_tab, tab_replicate}
use Rattle.lists.proofs.Tests.{and_no}
use Rattle.mesh.specs.Mesh.{over}
use Rattle.std.specs.Prelude.{Ok, Err}
use Rattle.paths.specs.declared.intersect.Triangle.{Triangle}
use Rattle.paths.specs.Intersect.{hits}
use Rattle.paths.specs.Paths.{paths_in, ray_in, triangle_in, blocks, lowest, answer_of, answers_of, is_refused, paths_number, answers_after, PathsCall}
use Rattle.paths.specs.Pass.{Loaded, next_answer, step_at, turn_of}
use Rattle.lists.proofs.Updates.{passes, updated_same, updated_tab}

-- ---- one path

-- an answer that is there stays
next_on : (hit : Bool) (n s : ℕ) → next_answer hit n (s + 1) ≡ s + 1
unfolding next_answer
next_on hit n s =
    let e : eqb (s + 1) 0 ≡ false = ne_eqb (s + 1) 0 (λ (h : s + 1 ≡ 0). omega arith) in
    ap (λ (b : Bool). cond b n (s + 1)) (ap (λ (b : Bool). hit && b) e ∙ and_no hit)

module _ (f : ℕ → Bool) where
  stays : (k t s : ℕ) → run (λ (i r : ℕ). next_answer (f i) (i + 1) r) k t (s + 1) ≡ s + 1
  unfolding run
  stays zero t s = refl
  stays (suc k) t s = ap (λ (r : ℕ). run (λ (i r : ℕ). next_answer (f i) (i + 1) r) k (suc t) r) (next_on (f t) (t + 1) s) ∙ stays k (suc t) s

  carried_from : (k i : ℕ) → run (λ (j r : ℕ). next_answer (f j) (j + 1) r) k i 0 ≡ cond (ltb (first f k i) (i + k)) (first f k i + 1) 0
  unfolding run first next_answer
  carried_from zero i = sym (ap (λ (b : Bool). cond b (i + 1) 0) (le-ltb i (i + 0) (omega arith)))
  carried_from (suc k) i = go (f i) (carried_from k (suc i))
    where
      go : (b : Bool) → run (λ (j r : ℕ). next_answer (f j) (j + 1) r) k (suc i) 0 ≡ cond (ltb (first f k (suc i)) (suc i + k)) (first f k (suc i) + 1) 0
          → run (λ (j r : ℕ). next_answer (f j) (j + 1) r) k (suc i) (next_answer b (i + 1) 0)
          ≡ cond (ltb (pick b i (first f k (suc i))) (i + suc k)) (pick b i (first f k (suc i)) + 1) 0
      go true e = stays k (suc i) i ∙ sym (ap (λ (b : Bool). cond b (i + 1) 0) (lt-ltb i (i + suc k) (omega arith)))
      go false e = let q : suc i + k ≡ i + suc k = omega arith in e ∙ ap (λ (n : ℕ). cond (ltb (first f k (suc i)) n) (first f k (suc i) + 1) 0) q

  pub carried : (n : ℕ) → run (λ (i r : ℕ). next_answer (f i) (i + 1) r) n 0 0 ≡ lowest f n
  unfolding lowest
  carried n = carried_from n 0 ∙ ap (λ (m : ℕ). cond (ltb (first f n 0) m) (first f n 0 + 1) 0) (zero-add n)

-- ---- all paths

-- triangle t for path j, off the words
abbrev words_of : List ℕ → List ℕ → List ℕ → ℕ → ℕ → ℕ → ℕ
words_of positions indices paths t j r = next_answer (blocks positions indices (ray_in paths j) t) (t + 1) r

step_same : (positions indices paths : List ℕ) (rays : List Float) (m t j x : ℕ) → Loaded paths rays m → j < m
    → step_at rays (triangle_in positions indices t) (t + 1) j x ≡ words_of positions indices paths t j x
unfolding Loaded step_at blocks
step_same positions indices paths rays m t j x h b = λ n. next_answer (hits (h j b n) (triangle_in positions indices t)) (t + 1) x

-- one turn of the loop over the triangles
pub turned : (positions indices : List ℕ) (rays : List Float) (m t : ℕ) (l r : List ℕ) (tri : Triangle) → tri ≡ triangle_in positions indices t
    → r ≡ updated (step_at rays tri (t + 1)) m l → r ≡ turn_of positions indices rays m t l
unfolding turn_of
turned positions indices rays m t l r tri e h = h ∙ ap (λ (x : Triangle). updated (step_at rays x (t + 1)) m l) e

tested : (positions indices paths held mid made left : List ℕ) (rays : List Float) → is_refused positions indices paths (length held) ≡ false → Loaded paths rays (paths_in paths)
    → mid ≡ replicate (paths_in paths) 0 → made ≡ run (turn_of positions indices rays (paths_in paths)) (length indices / 3) 0 mid
    → left ≡ made ++ drop (paths_in paths) held → left ≡ answers_after positions indices paths held
unfolding answers_after answers_of answer_of turn_of
tested positions indices paths held mid made left rays taken loaded p q e =
    let m = paths_in paths in
    let n = length indices / 3 in
    let f : ℕ → ℕ = λ (j : ℕ). answer_of positions indices (ray_in paths j) in
    let none : List ℕ = replicate m 0 in
    let is : made ≡ tab f m 0 =
    q
    ∙ ap (λ (l : List ℕ). run (turn_of positions indices rays m) n 0 l) (p ∙ sym (updated_tab (λ j. 0) m 0 ∙ tab_replicate 0 m 0))
    ∙ (λ i. run (λ (t : ℕ) (l : List ℕ).
    updated_same (step_at rays (triangle_in positions indices t) (t + 1)) (words_of positions indices paths t) m l
    (λ (j : ℕ) (b : j < m) (x : ℕ). step_same positions indices paths rays m t j x loaded b) i) n 0 (updated (λ (j r : ℕ). 0) m none))
    ∙ passes (words_of positions indices paths) m n 0 (λ (j r : ℕ). 0) none
    ∙ (λ i. updated (λ (j x : ℕ). carried (blocks positions indices (ray_in paths j)) n i) m none)
    ∙ updated_tab f m 0 in
    beyond (tab f m 0) held m (length_tab f m 0) (e ∙ ap (λ (l : List ℕ). l ++ drop m held) is)
    ∙ ap (λ (b : Bool). cond b held (over (answers_of positions indices paths) held)) (sym taken)

-- ---- the call

module _ (positions indices paths held : List ℕ) where
  pub tested_call : (mid made left : List ℕ) (rays : List Float) → is_refused positions indices paths (length held) ≡ false → Loaded paths rays (paths_in paths)
      → mid ≡ replicate (paths_in paths) 0 → made ≡ run (turn_of positions indices rays (paths_in paths)) (length indices / 3) 0 mid
      → left ≡ made ++ drop (paths_in paths) held → PathsCall positions indices paths held left (Ok tt)
  unfolding paths_number
  tested_call mid made left rays taken loaded p q e =
      record { number = sym (ap (λ (b : Bool). cond b 12 0) taken); answers = tested positions indices paths held mid made left rays taken loaded p q e }

  pub refused_call : is_refused positions indices paths (length held) ≡ true → PathsCall positions indices paths held held (Err (record {}))
  unfolding paths_number answers_after
  refused_call e = record {
    number = sym (ap (λ (b : Bool). cond b 12 0) e);
    answers = sym (ap (λ (b : Bool). cond b held (over (answers_of positions indices paths) held)) e);
  }
