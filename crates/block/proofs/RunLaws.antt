-- Laws of runs: the length of a run, the first of the runs and the rest, kept faces, and a turn of a loop over the runs.
-- What ends a run is `ends_run`, which is never opened here. Assumes nothing.
use Prim.Native.Nat.{ℕ, suc, ◌+◌, ◌-◌, ◌*◌, ◌/◌, ◌≤◌, ◌<◌}
use mathlib.Core.Path.{◌≡◌, refl, ap, sym, ◌∙◌, subst}
use mathlib.Core.Bool.{Bool, true, false, cond, not}
use mathlib.Core.List.{List, [], ◌∷◌, ◌++◌, append_assoc, append-nil}
use borrow.Author.Tests.{le-leb, lt-leb, lt-ltb, le-ltb, ltb-false}
use native.Mathlib.Nat.{not-suc-le-zero}
use native.Mathlib.Omega.{arith}
use native.Mathlib.Numerals.{add-one}
use lib.Dec.{T, leb, ltb, leb→le}
use lib.Ieee.Fits.{and_l, and_r}
use lib.ListN.{length, get_or, take, drop, drop_of_length-le, length-append, length-take, length-drop}
use lib.Seq.{drop-drop}
use Rattle.std.specs.Prelude.{Option, None, Some, unwrap_or}
use Rattle.std.specs.List.{position_or_len}
use Rattle.lists.specs.Loops.{tab}
use Rattle.lists.proofs.Below.{below_at}
use Rattle.bits.specs.Bits.{entries}
use Rattle.bits.proofs.Entries.{entries_length, entries_part}
use Rattle.lists.specs.Lists.{all_below}
use Rattle.block.specs.Runs.{ends_run, Run, run_of, before, runs_from, runs, split_from, runs_left, run_length, run_at, RunPart, next_start, kept, faces, corners, triangles}
use Rattle.block.specs.Stream.{is_negative}

-- ---- the length of a run

pub run_over : (ws : List ℕ) (k : ℕ) → length ws ≤ k → run_length (drop k ws) ≡ 0
unfolding run_length
run_over ws k l = rw (drop_of_length-le ws l)

-- the place of the first entry that ends a run, or the number of entries
end_place : (ws : List ℕ) → position_or_len ends_run ws ≡ run_length ws
unfolding run_length
end_place [] = refl
end_place (w ∷ ws) = go (ends_run w) (end_place ws)
  where
    go : (b : Bool) → position_or_len ends_run ws ≡ run_length ws → cond (not b) (1 + position_or_len ends_run ws) 0 ≡ cond b 0 (suc (run_length ws))
    go true h = refl
    go false h = omega (arith, h)

pub run_le : (ws : List ℕ) → run_length ws ≤ length ws
unfolding run_length
run_le [] = omega arith
run_le (w ∷ ws) = go (ends_run w) (run_le ws)
  where
    go : (b : Bool) → run_length ws ≤ length ws → cond b 0 (suc (run_length ws)) ≤ suc (length ws)
    go true h = omega arith
    go false h = omega arith

-- as a search for it finds it
pub first_end : (ws : List ℕ) (o : Option ℕ) → o ≡ cond (ltb (position_or_len ends_run ws) (length ws)) (Some (position_or_len ends_run ws)) None → unwrap_or o (length ws) ≡ run_length ws
first_end ws o e = rw (e, end_place) (go (ltb (run_length ws) (length ws)) refl)
  where
    go : (b : Bool) → ltb (run_length ws) (length ws) ≡ b → unwrap_or (cond b (Some (run_length ws)) None) (length ws) ≡ run_length ws
    go true h = refl
    go false h = omega (arith, run_le ws, ltb-false _ _ h)

-- ---- the part of a list that holds a run: from entry s up to entry e, and none beyond the list

pub run_part_lem : (bs : List ℕ) (s e : ℕ) → e ≡ s + run_length (drop s (entries bs)) → e ≤ length bs / 4 → RunPart bs s (take (4 * e - 4 * s) (drop (4 * s) bs))
run_part_lem bs s e p q =
    let d : 4 * e - 4 * s ≡ 4 * run_length (drop s (entries bs)) = omega arith in
    record {
      bytes = rw d;
      items = rw d (entries_part bs s (run_length (drop s (entries bs))) (omega arith));
      within = simp (length-take, length-drop) (omega arith);
    }

pub run_past : (bs : List ℕ) (s : ℕ) → length bs / 4 ≤ s → RunPart bs s []
unfolding entries tab
run_past bs s h =
    let e : run_length (drop s (entries bs)) ≡ 0 = run_over (entries bs) s (omega (arith, entries_length bs)) in
    record { bytes = rw e; items = rw e refl; within = omega arith }

-- ---- the runs: the first, and the rest

tail_eq : (s m w : ℕ) (ws : List ℕ) → runs_from (suc s + (m + 1)) (drop (m + 1) ws) ≡ runs_from (s + (suc m + 1)) (drop (suc m + 1) (w ∷ ws))
tail_eq s m w ws =
    let a : suc m + 1 ≡ suc (m + 1) = omega arith in
    let b : suc s + (m + 1) ≡ s + suc (m + 1) = omega arith in
    rw (a, b)

-- one entry more at the front; rs are the runs of what follows it
first_case : (b : Bool) (s w : ℕ) (ws : List ℕ) (rs : List Run) → rs ≡ runs_from (suc s) ws
    → (0 < length ws → rs ≡ run_of (suc s) (take (run_length ws) ws) ∷ runs_from (suc s + (run_length ws + 1)) (drop (run_length ws + 1) ws))
    → before b s w rs
    ≡ run_of s (take (cond b 0 (suc (run_length ws))) (w ∷ ws)) ∷ runs_from (s + (cond b 0 (suc (run_length ws)) + 1)) (drop (cond b 0 (suc (run_length ws)) + 1) (w ∷ ws))
unfolding runs_from run_length
first_case true s w ws rs e ih = rw (e, add-one)
first_case false s w [] rs e ih = rw e
first_case false s w (x ∷ xs) rs e ih =
    rw (ih (omega arith)) (ap (λ (l : List Run). run_of s (w ∷ take (run_length (x ∷ xs)) (x ∷ xs)) ∷ l) (tail_eq s (run_length (x ∷ xs)) w (x ∷ xs)))

runs_first : (s : ℕ) (ws : List ℕ) → 0 < length ws → runs_from s ws ≡ run_of s (take (run_length ws) ws) ∷ runs_from (s + (run_length ws + 1)) (drop (run_length ws + 1) ws)
unfolding runs_from run_length
runs_first s [] h = absurd (not-suc-le-zero h)
runs_first s (w ∷ ws) h = first_case (ends_run w) s w ws (runs_from (suc s) ws) refl (runs_first (suc s) ws)

-- ---- the loop of split_runs finds the runs

-- the runs of what is left, with the entries held since `start` before the first
joined : ℕ → List ℕ → List Run → List Run
joined s [] rs = rs
joined s (h ∷ hs) [] = run_of s (h ∷ hs) ∷ []
joined s (h ∷ hs) (r ∷ rs) = run_of s (h ∷ hs ++ r.items) ∷ rs

module _ (s k : ℕ) where
  joined_none : (held : List ℕ) → s + length held ≡ k → cond (ltb s k) (run_of s held ∷ []) [] ≡ joined s held []
  unfolding joined
  joined_none [] p = rw (le-ltb s k (omega arith))
  joined_none (h ∷ hs) p = rw (lt-ltb s k (omega arith))

  joined_stop : (held : List ℕ) (rs : List Run) → s + length held ≡ k → run_of s held ∷ rs ≡ joined s held (run_of k [] ∷ rs)
  unfolding joined
  joined_stop [] rs p = let e : k ≡ s = omega arith in rw e
  joined_stop (h ∷ hs) rs p = rw append-nil

  joined_more : (w : ℕ) (held : List ℕ) (rs : List Run) → s + length held ≡ k → joined s (held ++ w ∷ []) rs ≡ joined s held (before false k w rs)
  unfolding joined
  joined_more w [] [] p = let e : k ≡ s = omega arith in rw e
  joined_more w [] (r ∷ rs) p = let e : k ≡ s = omega arith in rw e
  joined_more w (h ∷ hs) [] p = refl
  joined_more w (h ∷ hs) (r ∷ rs) p = rw (append_assoc hs (w ∷ []) r.items)

split_joined : (s k : ℕ) (held ws : List ℕ) → s + length held ≡ k → split_from ends_run s k held ws ≡ joined s held (runs_from k ws)
unfolding split_from runs_from joined
split_joined s k held [] p = joined_none s k held p
split_joined s k held (w ∷ ws) p =
    go (ends_run w) (split_joined (suc k) (suc k) [] ws (omega arith)) (split_joined s (suc k) (held ++ w ∷ []) ws (omega (arith, length-append held (w ∷ []))))
  where
    go : (b : Bool)
        → split_from ends_run (suc k) (suc k) [] ws ≡ runs_from (suc k) ws
        → split_from ends_run s (suc k) (held ++ w ∷ []) ws ≡ joined s (held ++ w ∷ []) (runs_from (suc k) ws)
        → cond b (run_of s held ∷ split_from ends_run (suc k) (suc k) [] ws) (split_from ends_run s (suc k) (held ++ w ∷ []) ws) ≡ joined s held (before b k w (runs_from (suc k) ws))
    go true a b = rw a (joined_stop s k held (runs_from (suc k) ws) p)
    go false a b = b ∙ joined_more s k w held (runs_from (suc k) ws) p

pub runs_split : (ws : List ℕ) → split_from ends_run 0 0 [] ws ≡ runs ws
unfolding joined
runs_split ws = split_joined 0 0 [] ws refl

-- where every negative entry is -1, the loop finds these runs by the source's own test, which takes any negative entry
split_same : (s k : ℕ) (held ws : List ℕ)
    → ((i : ℕ) → is_negative (get_or ws i 0) ≡ ends_run (get_or ws i 0))
    → split_from is_negative s k held ws ≡ split_from ends_run s k held ws
unfolding split_from
split_same s k held [] h = refl
split_same s k held (w ∷ ws) h =
    let a = split_same (suc k) (suc k) [] ws (λ i. h (suc i)) in
    let b = split_same s (suc k) (held ++ w ∷ []) ws (λ i. h (suc i)) in
    λ j. cond (h 0 j) (run_of s held ∷ a j) (b j)

pub runs_split_negative : (ws : List ℕ) → ((i : ℕ) → is_negative (get_or ws i 0) ≡ ends_run (get_or ws i 0)) → split_from is_negative 0 0 [] ws ≡ runs ws
runs_split_negative ws h = split_same 0 0 [] ws h ∙ runs_split ws

-- ---- a turn of a loop over the runs: r is the run at entry s of the list bs
module _ (bs : List ℕ) (s : ℕ) (r : List ℕ) (e : entries r ≡ run_at (entries bs) s) where
  run_size : length r / 4 ≡ run_length (drop s (entries bs))
  run_size =
      let l : length (entries r) ≡ length (run_at (entries bs) s) = ap length e in
      omega (arith, entries_length r, length-take (run_length (drop s (entries bs))) (drop s (entries bs)), run_le (drop s (entries bs)))

  -- what is left at entry s is the run there, and what is left at the next start n
  module _ (n : ℕ) (q : n ≡ next_start s r) (h : s < length bs / 4) where
    pub runs_step : runs_left (entries bs) s ≡ run_of s (entries r) ∷ runs_left (entries bs) n
    runs_step =
        let m : n ≡ s + (run_length (drop s (entries bs)) + 1) = omega (arith, run_size) in
        rw (m, e, runs_first s (drop s (entries bs)) (omega (arith, length-drop s (entries bs), entries_length bs)), drop-drop)

-- and its end: beyond the list nothing is left
pub runs_over : (bs : List ℕ) (s : ℕ) → length bs / 4 ≤ s → runs_left (entries bs) s ≡ []
unfolding runs_from
runs_over bs s h = rw (drop_of_length-le (entries bs) {i = s} (omega (arith, entries_length bs)))

-- ---- kept faces

module _ (p : ℕ) (ws : List ℕ) where
  pub kept_short : length ws < 3 → false ≡ kept p ws
  unfolding kept
  kept_short h = rw (lt-leb 3 (length ws) h)

  pub kept_below_all : 3 ≤ length ws → all_below p ws ≡ kept p ws
  unfolding kept
  kept_below_all h = rw (le-leb 3 (length ws) h)

  pub kept_all : 3 ≤ length ws → true ≡ all_below p ws → true ≡ kept p ws
  unfolding kept
  kept_all h e = rw (← e, le-leb 3 (length ws) h)

  pub kept_long : kept p ws ≡ true → 3 ≤ length ws
  unfolding kept
  kept_long e = leb→le 3 (length ws) (and_l (leb 3 (length ws)) _ (subst T (sym e) tt))

  -- the entries of a kept face are point numbers
  pub kept_below : kept p ws ≡ true → (k : ℕ) → k < length ws → get_or ws k 0 < p
  unfolding kept
  kept_below e k h = below_at p ws (and_r (leb 3 (length ws)) _ (subst T (sym e) tt)) k h

  -- what a kept face and another run have
  pub face_kept : kept p ws ≡ true → (faces p ws ≡ 1) × (corners p ws ≡ length ws) × (triangles p ws ≡ length ws - 2)
  unfolding faces corners triangles
  face_kept e = (rw e, rw e, rw e)

  pub face_lost : kept p ws ≡ false → (faces p ws ≡ 0) × (corners p ws ≡ 0) × (triangles p ws ≡ 0)
  unfolding faces corners triangles
  face_lost e = (rw e, rw e, rw e)
