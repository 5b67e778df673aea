-- FORMAT 19.3, 18.4: what calls tell: what is refused, what an answer means, and that each answer is what the path gets alone, in whichever order the paths stand.
-- Assumes nothing.
use mathlib.Core.Path.{◌≡◌, refl, sym, ap, ◌∙◌}
use mathlib.Core.Bool.{Bool, true, false, cond}
use mathlib.Core.List.{List}
use Prim.Native.Nat.{ℕ, ◌+◌, ◌*◌, ◌/◌, ◌%◌, ◌≤◌, ◌<◌}
use native.Mathlib.Omega.{arith}
use lib.Dec.{ltb}
use lib.Ieee.{binary32, of_bits}
use lib.ListN.{length, get_or, drop, length-drop, get_or-append}
use lib.Seq.{get_or-take, get_or-drop, length-take-le, drop-append-add}
use borrow.Author.Tests.{lt-ltb, ltb-true}
use Rattle.lists.specs.Loops.{first}
use Rattle.lists.proofs.Searches.{first_has, first_find, first_below}
use Rattle.lists.proofs.Tabs.{length_tab, tab_at}
use Rattle.lists.proofs.Tests.{never}
use Rattle.math.specs.Vector.{v3, vsub}
use Rattle.mesh.specs.Words.{point_words}
use Rattle.mesh.specs.Mesh.{over}
use Rattle.paths.specs.Paths.{PathsAnswer}
use Rattle.paths.specs.declared.intersect.Ray.{Ray}
use Rattle.paths.specs.Paths.{point_in, paths_in, path_words, ray_in, blocks, lowest, answer_of, answers_of, is_refused, number_of, paths_number, answers_after, PathsCall, Relabelled}
use Rattle.paths.proofs.Refusing.{Accepted, accepted, lets_pass}

-- ---- a call that is refused, and one that is not

module _ {positions indices paths held left : List ℕ} {r : PathsAnswer} (C : PathsCall positions indices paths held left r) where
  -- a ground that holds gives 12, and nothing is written
  pub refused : is_refused positions indices paths (length held) ≡ true → (number_of r ≡ 12) × (left ≡ held)
  unfolding paths_number answers_after
  refused e = (
    C.number ∙ ap (λ (b : Bool). cond b 12 0) e,
    C.answers ∙ ap (λ (b : Bool). cond b held (over (answers_of positions indices paths) held)) e,
  )

  -- where none does, nothing is refused
  pub let_pass : is_refused positions indices paths (length held) ≡ false → number_of r ≡ 0
  unfolding paths_number
  let_pass e = C.number ∙ ap (λ (b : Bool). cond b 12 0) e

  module _ (z : number_of r ≡ 0) where
    -- no ground holds
    taken : is_refused positions indices paths (length held) ≡ false
    taken = never (is_refused positions indices paths (length held)) (λ (e : is_refused positions indices paths (length held) ≡ true). let q = (refused e).0 in omega (arith, z, q))

    pub fit : Accepted positions indices paths (length held)
    fit = accepted positions indices paths (length held) taken

    left_is : left ≡ over (answers_of positions indices paths) held
    unfolding answers_after
    left_is = C.answers ∙ ap (λ (b : Bool). cond b held (over (answers_of positions indices paths) held)) taken

    answers_size : length (answers_of positions indices paths) ≡ paths_in paths
    unfolding answers_of
    answers_size = length_tab (λ j. answer_of positions indices (ray_in paths j)) (paths_in paths) 0

    -- answer i is that of path i
    pub answer_at : (i : ℕ) → i < paths_in paths → get_or left i 0 ≡ answer_of positions indices (ray_in paths i)
    unfolding answers_of
    answer_at i b =
        ap (λ (l : List ℕ). get_or l i 0) left_is
        ∙ get_or-append (answers_of positions indices paths) (drop (length (answers_of positions indices paths)) held) 0 i (omega (arith, answers_size))
        ∙ tab_at (λ j. answer_of positions indices (ray_in paths j)) (paths_in paths) i 0 b

    -- what lies beyond the paths stays
    pub beyond_stays : drop (paths_in paths) left ≡ drop (paths_in paths) held
    beyond_stays =
        ap (drop (paths_in paths)) left_is
        ∙ ap (λ (k : ℕ). drop k (over (answers_of positions indices paths) held)) (sym answers_size ∙ plus_none (length (answers_of positions indices paths)))
        ∙ drop-append-add (answers_of positions indices paths) (drop (length (answers_of positions indices paths)) held) 0
        ∙ ap (λ (k : ℕ). drop k held) answers_size
      where
        plus_none : (k : ℕ) → k ≡ k + 0
        plus_none k = omega arith

-- Nothing is left open: the same call gives the same number and leaves the same elements.
pub alike : {positions indices paths held left left' : List ℕ} {r r' : PathsAnswer} → PathsCall positions indices paths held left r
    → PathsCall positions indices paths held left' r' → (number_of r ≡ number_of r') × (left ≡ left')
alike C D = (C.number ∙ sym D.number, C.answers ∙ sym D.answers)

-- ---- the lowest

module _ (test : ℕ → Bool) (n : ℕ) where
  -- 0: none passes
  pub lowest_none : lowest test n ≡ 0 → (t : ℕ) → t < n → test t ≡ false
  unfolding lowest
  lowest_none e t b = never (test t) (λ (h : test t ≡ true).
      let f : first test n 0 < 0 + n = first_has test n 0 t (omega arith) (omega arith) h in
      let q : cond (ltb (first test n 0) n) (first test n 0 + 1) 0 ≡ first test n 0 + 1 =
      ap (λ (x : Bool). cond x (first test n 0 + 1) 0) (lt-ltb (first test n 0) n (omega arith)) in
      let w : 0 ≡ first test n 0 + 1 = sym e ∙ q in
      omega arith)

  -- t + 1: t does, and none below it
  pub lowest_some : (t : ℕ) → lowest test n ≡ t + 1 → (t < n) × (test t ≡ true) × ((s : ℕ) → s < t → test s ≡ false)
  unfolding lowest
  lowest_some t e = go (ltb (first test n 0) n) refl e
    where
      go : (b : Bool) → ltb (first test n 0) n ≡ b → cond b (first test n 0 + 1) 0 ≡ t + 1 → (t < n) × (test t ≡ true) × ((s : ℕ) → s < t → test s ≡ false)
      go false p q = absurd (omega (arith, q))
      go true p q =
          let w : first test n 0 ≡ t = omega (arith, q) in
          let l : first test n 0 < n = ltb-true (first test n 0) n p in
          (omega arith, ap test (sym w) ∙ first_find test n 0 (omega arith), λ (s : ℕ) (h : s < t). first_below test n 0 s (omega arith) (omega arith))

-- ---- what an answer means

module _ {positions indices paths held left : List ℕ} {r : PathsAnswer} (C : PathsCall positions indices paths held left r) (z : number_of r ≡ 0) (i : ℕ) (b : i < paths_in paths) where
  -- 0: no triangle blocks the path
  pub clear_means : get_or left i 0 ≡ 0 → (t : ℕ) → t < length indices / 3 → blocks positions indices (ray_in paths i) t ≡ false
  unfolding answer_of
  clear_means e = lowest_none (blocks positions indices (ray_in paths i)) (length indices / 3) (sym (answer_at C z i b) ∙ e)

  -- t + 1: triangle t does, and none below it
  pub blocked_means : (t : ℕ) → get_or left i 0 ≡ t + 1
      → (t < length indices / 3) × (blocks positions indices (ray_in paths i) t ≡ true) × ((s : ℕ) → s < t → blocks positions indices (ray_in paths i) s ≡ false)
  unfolding answer_of
  blocked_means t e = lowest_some (blocks positions indices (ray_in paths i)) (length indices / 3) t (sym (answer_at C z i b) ∙ e)

-- ---- a path alone

word_of : (paths : List ℕ) (j k i : ℕ) → k < 6 → j * 6 + k ≡ i → get_or (path_words paths j) k 0 ≡ get_or paths i 0
word_of paths j k i b e = get_or-take 6 (drop (j * 6) paths) k 0 b ∙ get_or-drop (j * 6) paths k 0 ∙ ap (λ (x : ℕ). get_or paths x 0) e

point_of : (paths : List ℕ) (j p q : ℕ) → p < 2 → q ≡ 2 * j + p → point_in (path_words paths j) p ≡ point_in paths q
unfolding point_in point_words
point_of paths j p q b e = λ n. v3 (of_bits binary32 (x n)) (of_bits binary32 (y n)) (of_bits binary32 (z n))
  where
    x : get_or (path_words paths j) (p * 3) 0 ≡ get_or paths (q * 3) 0
    x = word_of paths j (p * 3) (q * 3) (omega arith) (omega arith)

    y : get_or (path_words paths j) (p * 3 + 1) 0 ≡ get_or paths (q * 3 + 1) 0
    y = word_of paths j (p * 3 + 1) (q * 3 + 1) (omega arith) (omega arith)

    z : get_or (path_words paths j) (p * 3 + 2) 0 ≡ get_or paths (q * 3 + 2) 0
    z = word_of paths j (p * 3 + 2) (q * 3 + 2) (omega arith) (omega arith)

-- a path is told by its words
ray_of : (paths : List ℕ) (j : ℕ) → ray_in (path_words paths j) 0 ≡ ray_in paths j
unfolding ray_in
ray_of paths j = λ n. record { orig = from n; dir = vsub (to n) (from n) }
  where
    from : point_in (path_words paths j) (2 * 0) ≡ point_in paths (2 * j)
    from = point_of paths j 0 (2 * j) (omega arith) (omega arith)

    to : point_in (path_words paths j) (2 * 0 + 1) ≡ point_in paths (2 * j + 1)
    to = point_of paths j 1 (2 * j + 1) (omega arith) refl

path_size : (paths : List ℕ) (i : ℕ) → i < paths_in paths → length (path_words paths i) ≡ 6
path_size paths i b = length-take-le 6 (drop (i * 6) paths) (omega (arith, length-drop (i * 6) paths))

-- The words of path i alone, with room for an answer: the call is not refused either, and gives the same answer.
pub alone : {positions indices paths held left held' left' : List ℕ} {r r' : PathsAnswer} → PathsCall positions indices paths held left r → number_of r ≡ 0
    → (i : ℕ) → i < paths_in paths → PathsCall positions indices (path_words paths i) held' left' r' → 1 ≤ length held'
    → (number_of r' ≡ 0) × (get_or left' 0 0 ≡ get_or left i 0)
alone {positions} {indices} {paths} {held} {left} {held'} {left'} {r} {r'} C z i b D room = (
  z',
  answer_at D z' 0 (omega (arith, one)) ∙ ap (λ (x : Ray). answer_of positions indices x) (ray_of paths i) ∙ sym (answer_at C z i b),
)
  where
    one : length (path_words paths i) ≡ 6
    one = path_size paths i b

    lone : Accepted positions indices (path_words paths i) (length held')
    lone = record {
      full = ap (λ (n : ℕ). n % 6) one;
      few = omega (arith, one);
      fits = omega (arith, one);
      points = (fit C z).points;
      threes = (fit C z).threes;
      inside = (fit C z).inside;
    }

    z' : number_of r' ≡ 0
    z' = let_pass D (lets_pass positions indices (path_words paths i) (length held') lone)

-- ---- in whichever order

-- The same path in two calls that are not refused gets the same answer, whatever stands beside it.
pub same_path : {positions indices paths held left paths' held' left' : List ℕ} {r r' : PathsAnswer} → PathsCall positions indices paths held left r → number_of r ≡ 0
    → PathsCall positions indices paths' held' left' r' → number_of r' ≡ 0 → (i j : ℕ) → i < paths_in paths → j < paths_in paths'
    → path_words paths i ≡ path_words paths' j → get_or left i 0 ≡ get_or left' j 0
same_path {positions} {indices} {paths} {paths' = paths'} C z D z' i j b b' e =
    answer_at C z i b
    ∙ ap (λ (x : Ray). answer_of positions indices x) (sym (ray_of paths i) ∙ ap (λ (l : List ℕ). ray_in l 0) e ∙ ray_of paths' j)
    ∙ sym (answer_at D z' j b')

-- The paths in another order, with as much room: not refused either, and the answers are in that order.
pub relabelled : {positions indices paths held left paths' held' left' : List ℕ} {r r' : PathsAnswer} {to : ℕ → ℕ} → Relabelled to paths paths'
    → PathsCall positions indices paths held left r → number_of r ≡ 0 → PathsCall positions indices paths' held' left' r' → length held ≤ length held'
    → (number_of r' ≡ 0) × ((i : ℕ) → i < paths_in paths → get_or left i 0 ≡ get_or left' (to i) 0)
relabelled {positions} {indices} {paths} {held} {left} {paths'} {held'} {left'} {r} {r'} {to} R C z D room = (
  z',
  λ (i : ℕ) (b : i < paths_in paths). let l = R.below i b in same_path C z D z' i (to i) b (omega (arith, R.size, l)) (R.same i b),
)
  where
    a : Accepted positions indices paths (length held)
    a = fit C z

    other : Accepted positions indices paths' (length held')
    other = record {
      full = ap (λ (n : ℕ). n % 6) R.size ∙ a.full;
      few = omega (arith, R.size, a.few);
      fits = omega (arith, R.size, a.fits);
      points = a.points;
      threes = a.threes;
      inside = a.inside;
    }

    z' : number_of r' ≡ 0
    z' = let_pass D (lets_pass positions indices paths' (length held') other)
