-- The runs of an index list: each stands in the list where it says; and where the values inside one are changed, all others stay.
use mathlib.Core.Path.{◌≡◌, refl, sym, ap, ◌∙◌, subst}
use mathlib.Core.Logic.{◌≢◌}
use mathlib.Core.Bool.{Bool, true, false, cond}
use mathlib.Core.List.{List, [], ◌∷◌, ◌++◌}
use Prim.Native.Nat.{ℕ, zero, suc, ◌+◌, ◌≤◌, ◌<◌}
use native.Mathlib.Nat.{add-zero, zero-add, suc-ne-zero, suc_inj, not-suc-le-zero, le_of_suc-le-suc}
use native.Mathlib.Omega.{arith}
use lib.ListN.{length, get_or, take, drop, length-append, get_or-append}
use lib.Seq.{take_at, get_or-append-add}
use Rattle.block.specs.Runs.{ends_run, Run, run_of, before, runs_from, runs}
use Rattle.lists.specs.Loops.{All}
use Rattle.lists.proofs.Lists.{drop_past, no_elements}

abbrev pub no_run : Run
no_run = run_of 0 []

-- how many entries end a run: the number of the run that goes on after them
abbrev ended : List ℕ → ℕ
ended [] = zero
ended (w ∷ ws) = cond (ends_run w) (suc (ended ws)) (ended ws)

abbrev Free : List ℕ → Type 0
Free ws = All (λ (w : ℕ). ends_run w ≡ false) ws

-- ---- run i stands in the list where it says, under its number, and none of its entries ends it

pub record Stands (s : ℕ) (ws : List ℕ) (i : ℕ) (r : Run) : Type 0 where
  pub pre : List ℕ
  pub post : List ℕ
  pub whole : ws ≡ pre ++ (r.items ++ post)
  pub there : s + length pre ≡ r.start
  pub number : ended pre ≡ i
  pub free : Free r.items

-- the first run of all starts at once
Starts : ℕ → List Run → Type 0
Starts s [] = Unit {0}
Starts s (r ∷ rs) = r.start ≡ s

before_starts : (b : Bool) (s w : ℕ) (rs : List Run) → Starts s (before b s w rs)
unfolding Starts
before_starts true s w rs = refl
before_starts false s w [] = refl
before_starts false s w (r ∷ rs) = refl

runs_start : (s : ℕ) (ws : List ℕ) → Starts s (runs_from s ws)
unfolding Starts runs_from
runs_start s [] = tt
runs_start s (w ∷ ws) = before_starts (ends_run w) s w (runs_from (suc s) ws)

-- one entry more at the front of a run that begins at once
joins : {s : ℕ} {ws : List ℕ} (w : ℕ) (r : Run) → ends_run w ≡ false → r.start ≡ suc s → Stands (suc s) ws 0 r → Stands s (w ∷ ws) 0 (run_of s (w ∷ r.items))
joins {s} {ws} w r q e a =
    let z : a.pre ≡ [] = let l : suc s + length a.pre ≡ suc s = a.there ∙ e in no_elements a.pre (omega arith) in
    record {
      pre = [];
      post = a.post;
      whole = ap (λ (l : List ℕ). w ∷ l) (a.whole ∙ ap (λ (p : List ℕ). p ++ (r.items ++ a.post)) z);
      there = add-zero s;
      number = refl;
      free = (q, a.free);
    }

-- a run further on
passes : {s i : ℕ} {ws : List ℕ} {r : Run} (w : ℕ) (b : Bool) → ends_run w ≡ b → Stands (suc s) ws i r → Stands s (w ∷ ws) (cond b (suc i) i) r
passes {s} {i} {ws} {r} w b q a =
    record {
      pre = w ∷ a.pre;
      post = a.post;
      whole = ap (λ (l : List ℕ). w ∷ l) a.whole;
      there = (let e = a.there in omega arith);
      number = (λ t. cond (q t) (suc (ended a.pre)) (ended a.pre)) ∙ ap (λ (k : ℕ). cond b (suc k) k) a.number;
      free = a.free;
    }

stands_at : (b : Bool) (s w : ℕ) (ws : List ℕ) (rs : List Run) → ends_run w ≡ b → Starts (suc s) rs
    → ((i : ℕ) → i < length rs → Stands (suc s) ws i (get_or rs i no_run)) → (i : ℕ) → i < length (before b s w rs) → Stands s (w ∷ ws) i (get_or (before b s w rs) i no_run)
unfolding Starts
stands_at true s w ws rs q t ih zero h = record { pre = []; post = w ∷ ws; whole = refl; there = add-zero s; number = refl; free = tt }
stands_at true s w ws rs q t ih (suc i) h = passes w true q (ih i (le_of_suc-le-suc h))
stands_at false s w ws [] q t ih zero h = record { pre = []; post = ws; whole = refl; there = add-zero s; number = refl; free = (q, tt) }
stands_at false s w ws [] q t ih (suc i) h = absurd (not-suc-le-zero (le_of_suc-le-suc h))
stands_at false s w ws (r ∷ rs) q t ih zero h = joins w r q t (ih 0 (omega arith))
stands_at false s w ws (r ∷ rs) q t ih (suc i) h = passes w false q (ih (suc i) h)

pub stands : (s : ℕ) (ws : List ℕ) (i : ℕ) → i < length (runs_from s ws) → Stands s ws i (get_or (runs_from s ws) i no_run)
unfolding runs_from
stands s [] i h = absurd (not-suc-le-zero h)
stands s (w ∷ ws) i h = stands_at (ends_run w) s w ws (runs_from (suc s) ws) refl (runs_start (suc s) ws) (λ j l. stands (suc s) ws j l) i h

-- so the list has the run's entries at their places
module _ (ws : List ℕ) (i : ℕ) (h : i < length (runs ws)) where
  pub run_within : (get_or (runs ws) i no_run).start + length (get_or (runs ws) i no_run).items ≤ length ws
  run_within =
      let a = stands 0 ws i h in
      let items : List ℕ = (get_or (runs ws) i no_run).items in
      let e : length ws ≡ length a.pre + (length items + length a.post) =
      ap length a.whole ∙ length-append a.pre (items ++ a.post) ∙ ap (λ (n : ℕ). length a.pre + n) (length-append items a.post) in
      let t : 0 + length a.pre ≡ (get_or (runs ws) i no_run).start = a.there in
      omega arith

  pub reads : (k : ℕ) → k < length (get_or (runs ws) i no_run).items → get_or ws ((get_or (runs ws) i no_run).start + k) 0 ≡ get_or (get_or (runs ws) i no_run).items k 0
  reads k l =
      let a = stands 0 ws i h in
      let items : List ℕ = (get_or (runs ws) i no_run).items in
      (λ t. get_or (a.whole t) ((sym a.there ∙ zero-add (length a.pre)) t + k) 0)
      ∙ get_or-append-add a.pre (items ++ a.post) k 0
      ∙ get_or-append items a.post 0 k l

-- ---- two lists of runs that differ in run r alone, which has the same place and length in both

pub data Differ : ℕ → List Run → List Run → Type 0 where
  here : {s : ℕ} {U W : List ℕ} {rs : List Run} → length U ≡ length W → Differ 0 (run_of s U ∷ rs) (run_of s W ∷ rs)
  there : {r : ℕ} {x : Run} {ls ms : List Run} → Differ r ls ms → Differ (suc r) (x ∷ ls) (x ∷ ms)

pub differ_long : {r : ℕ} {ls ms : List Run} → Differ r ls ms → length ls ≡ length ms
differ_long (here e) = refl
differ_long (there d) = ap suc (differ_long d)

pub differ_other : {r : ℕ} {ls ms : List Run} → Differ r ls ms → (n : ℕ) → n ≢ r → get_or ls n no_run ≡ get_or ms n no_run
differ_other (here e) zero ne = absurd (ne refl)
differ_other (here e) (suc n) ne = refl
differ_other (there d) zero ne = refl
differ_other (there d) (suc n) ne = differ_other d n (λ q. ne (ap suc q))

-- an entry before them
differ_before : (b : Bool) (s w : ℕ) {r : ℕ} {ls ms : List Run} → Differ r ls ms → Differ (cond b (suc r) r) (before b s w ls) (before b s w ms)
differ_before true s w d = there d
differ_before false s w (here e) = here (ap suc e)
differ_before false s w (there d) = there d

-- entries before them that end no run, and may be two
module _ (s u w : ℕ) (hu : ends_run u ≡ false) (hw : ends_run w ≡ false) where
  free_before : (ls ms : List Run) → Differ 0 (before false s u ls) (before false s w ms) → Differ 0 (before (ends_run u) s u ls) (before (ends_run w) s w ms)
  free_before ls ms d =
      subst (λ (b : Bool). Differ 0 (before b s u ls) (before (ends_run w) s w ms)) (sym hu)
      (subst (λ (b : Bool). Differ 0 (before false s u ls) (before b s w ms)) (sym hw) d)

  differ_same : (rs : List Run) → Differ 0 (before false s u rs) (before false s w rs)
  differ_same [] = here refl
  differ_same (r ∷ rs) = here refl

  differ_first : {ls ms : List Run} → Differ 0 ls ms → Differ 0 (before false s u ls) (before false s w ms)
  differ_first (here e) = here (ap suc e)

-- the values inside one run are changed, none to one that ends it
changed_first : (s u w : ℕ) (U W Q : List ℕ) → Free (u ∷ U) → Free (w ∷ W) → length U ≡ length W → Differ 0 (runs_from s (u ∷ U ++ Q)) (runs_from s (w ∷ W ++ Q))
unfolding runs_from
changed_first s u w [] [] Q hu hw e = free_before s u w hu.0 hw.0 (runs_from (suc s) Q) (runs_from (suc s) Q) (differ_same s u w hu.0 hw.0 (runs_from (suc s) Q))
changed_first s u w [] (y ∷ W) Q hu hw e = absurd (suc-ne-zero (length W) (sym e))
changed_first s u w (x ∷ U) [] Q hu hw e = absurd (suc-ne-zero (length U) e)
changed_first s u w (x ∷ U) (y ∷ W) Q hu hw e =
    free_before s u w hu.0 hw.0 (runs_from (suc s) (x ∷ U ++ Q)) (runs_from (suc s) (y ∷ W ++ Q))
    (differ_first s u w hu.0 hw.0 (changed_first (suc s) x y U W Q hu.1 hw.1 (suc_inj e)))

changed_run : (s : ℕ) (P : List ℕ) (u w : ℕ) (U W Q : List ℕ) → Free (u ∷ U) → Free (w ∷ W) → length U ≡ length W
    → Differ (ended P) (runs_from s (P ++ (u ∷ U ++ Q))) (runs_from s (P ++ (w ∷ W ++ Q)))
unfolding runs_from
changed_run s [] u w U W Q hu hw e = changed_first s u w U W Q hu hw e
changed_run s (p ∷ P) u w U W Q hu hw e = differ_before (ends_run p) s p (changed_run (suc s) P u w U W Q hu hw e)

-- ---- as FORMAT 13 has it: run r has the same place and length in both lists, and outside of it they are equal

pub record OneRunOf (l m : List ℕ) (r : ℕ) : Type 0 where
  pub in_l : r < length (runs l)
  pub in_m : r < length (runs m)
  pub place : (get_or (runs l) r no_run).start ≡ (get_or (runs m) r no_run).start
  pub long : length (get_or (runs l) r no_run).items ≡ length (get_or (runs m) r no_run).items
  pub fore : take (get_or (runs l) r no_run).start l ≡ take (get_or (runs l) r no_run).start m
  pub aft : drop ((get_or (runs l) r no_run).start + length (get_or (runs l) r no_run).items) l ≡ drop ((get_or (runs l) r no_run).start + length (get_or (runs l) r no_run).items) m

pub record AllButRun (r : ℕ) (ls ms : List Run) : Type 0 where
  pub long : length ls ≡ length ms
  pub same : (n : ℕ) → n ≢ r → get_or ls n no_run ≡ get_or ms n no_run

differ_but : {r : ℕ} {ls ms : List Run} → Differ r ls ms → AllButRun r ls ms
differ_but d = record { long = differ_long d; same = differ_other d }

replaced : (P U W Q : List ℕ) → Free U → Free W → length U ≡ length W → AllButRun (ended P) (runs (P ++ (U ++ Q))) (runs (P ++ (W ++ Q)))
replaced P [] [] Q hu hw e = record { long = refl; same = λ n ne. refl }
replaced P [] (w ∷ W) Q hu hw e = absurd (suc-ne-zero (length W) (sym e))
replaced P (u ∷ U) [] Q hu hw e = absurd (suc-ne-zero (length U) e)
replaced P (u ∷ U) (w ∷ W) Q hu hw e = differ_but (changed_run 0 P u w U W Q hu hw (suc_inj e))

pub one_run_of : (l m : List ℕ) (r : ℕ) → OneRunOf l m r → AllButRun r (runs l) (runs m)
one_run_of l m r h =
    let a = stands 0 l r h.in_l in
    let c = stands 0 m r h.in_m in
    let s : ℕ = (get_or (runs l) r no_run).start in
    let U : List ℕ = (get_or (runs l) r no_run).items in
    let W : List ℕ = (get_or (runs m) r no_run).items in
    let P : List ℕ = a.pre in
    let Q : List ℕ = a.post in
    let at-l : length P ≡ s = sym (zero-add (length P)) ∙ a.there in
    let at-m : length c.pre ≡ s = sym (zero-add (length c.pre)) ∙ c.there ∙ sym h.place in
    let pre-same : c.pre ≡ P =
    sym (take_at c.pre (W ++ c.post) s at-m) ∙ ap (take s) (sym c.whole) ∙ sym h.fore ∙ ap (take s) a.whole ∙ take_at P (U ++ Q) s at-l in
    let post-same : c.post ≡ Q =
    sym (drop_past c.pre W c.post s (length U) at-m (sym h.long)) ∙ ap (drop (s + length U)) (sym c.whole) ∙ sym h.aft
    ∙ ap (drop (s + length U)) a.whole ∙ drop_past P U Q s (length U) at-l refl in
    let m-is : m ≡ P ++ (W ++ Q) = c.whole ∙ (λ i. pre-same i ++ (W ++ post-same i)) in
    subst (λ (k : ℕ). AllButRun k (runs l) (runs m)) a.number
    (subst (λ (t : List ℕ). AllButRun (ended P) (runs t) (runs m)) (sym a.whole)
    (subst (λ (t : List ℕ). AllButRun (ended P) (runs (P ++ (U ++ Q))) (runs t)) (sym m-is) (replaced P U W Q a.free c.free h.long)))
