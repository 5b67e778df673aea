-- FORMAT 6.4: a loop over the stretches: the first, one more, and the end. Assumes nothing.
use Prim.Native.Nat.{ℕ, suc, ◌+◌, ◌-◌, ◌*◌, ◌/◌, ◌≤◌, ◌<◌}
use mathlib.Core.Path.{◌≡◌, refl, sym, ap, ◌∙◌}
use mathlib.Core.List.{List, [], ◌∷◌, ◌++◌}
use native.Mathlib.Omega.{arith}
use borrow.Author.Tests.{lt-ltb, le-ltb}
use lib.ListN.{length, take, drop, length-take, length-drop, length-append, drop_of_length-le}
use lib.Seq.{take_all}
use Rattle.lists.specs.Loops.{tab}
use Rattle.lists.specs.Lists.{flat}
use Rattle.bits.specs.Bits.{entries}
use Rattle.bits.proofs.Entries.{entries_length, entries_part}
use Rattle.block.specs.declared.topology.Topology.{Topology}
use Rattle.block.specs.declared.topology.Topology.TheVariants.{Triangles, Fans, Strips, Quads}
use Rattle.block.specs.Runs.{Run, run_of, RunPart, next_start}
use Rattle.block.proofs.RunLaws.{runs_step, runs_over}
use Rattle.primitives.specs.Primitives.{stretches, primitive_count}
use Rattle.primitives.specs.Kept.{kept_by, kept_over}
use Rattle.primitives.specs.Stretches.{stretch_at, whole_left, stretches_left, StretchPart}

-- ---- the parts of a list

pub rest_part : (bs : List ℕ) (s : ℕ) → s < length bs / 4 → StretchPart Triangles bs s (take (4 * (length bs / 4) - 4 * s) (drop (4 * s) bs))
unfolding stretch_at
rest_part bs s h =
    let d : 4 * (length bs / 4) - 4 * s ≡ 4 * (length bs / 4 - s) = omega arith in
    record {
      items = rw d (entries_part bs s (length bs / 4 - s) (omega arith))
          ∙ take_all (length bs / 4 - s) (drop s (entries bs)) (omega (arith, length-drop s (entries bs), entries_length bs));
      within = simp (length-take, length-drop) (omega arith);
    }

pub rest_past : (bs : List ℕ) (s : ℕ) → length bs / 4 ≤ s → StretchPart Triangles bs s []
unfolding stretch_at entries tab
rest_past bs s h = record { items = sym (drop_of_length-le (entries bs) {i = s} (omega (arith, entries_length bs))); within = omega arith }

pub rest_quads : {bs r : List ℕ} {s : ℕ} → StretchPart Triangles bs s r → StretchPart Quads bs s r
unfolding stretch_at
rest_quads P = record { items = P.items; within = P.within }

pub fan_part : {bs r : List ℕ} {s : ℕ} → RunPart bs s r → StretchPart Fans bs s r
unfolding stretch_at
fan_part P = record { items = P.items; within = P.within }

pub strip_part : {bs r : List ℕ} {s : ℕ} → RunPart bs s r → StretchPart Strips bs s r
unfolding stretch_at
strip_part P = record { items = P.items; within = P.within }

-- ---- a turn: r is the part at entry s, and n the next start

module _ (bs : List ℕ) (s : ℕ) (r : List ℕ) (n : ℕ) (q : n ≡ next_start s r) (h : s < length bs / 4) where
  whole_step : entries r ≡ drop s (entries bs) → whole_left (entries bs) s ≡ run_of s (entries r) ∷ whole_left (entries bs) n
  unfolding whole_left
  whole_step e =
      let l = entries_length bs in
      let m = entries_length r in
      let k = ap length e in
      let d = length-drop s (entries bs) in
      rw (lt-ltb s (length (entries bs)) (omega arith), le-ltb n (length (entries bs)) (omega arith), e)

  pub stretches_step : (g : Topology) → StretchPart g bs s r → stretches_left g (entries bs) s ≡ run_of s (entries r) ∷ stretches_left g (entries bs) n
  unfolding stretches_left stretch_at
  stretches_step Triangles P = whole_step P.items
  stretches_step Fans P = runs_step bs s r P.items n q h
  stretches_step Strips P = runs_step bs s r P.items n q h
  stretches_step Quads P = whole_step P.items

whole_over : (bs : List ℕ) (s : ℕ) → length bs / 4 ≤ s → whole_left (entries bs) s ≡ []
unfolding whole_left
whole_over bs s h = let l = entries_length bs in rw (le-ltb s (length (entries bs)) (omega arith))

pub stretches_over : (g : Topology) (bs : List ℕ) (s : ℕ) → length bs / 4 ≤ s → stretches_left g (entries bs) s ≡ []
unfolding stretches_left
stretches_over Triangles bs s h = whole_over bs s h
stretches_over Fans bs s h = runs_over bs s h
stretches_over Strips bs s h = runs_over bs s h
stretches_over Quads bs s h = whole_over bs s h

-- ---- what is kept: at first all, and one stretch after another

module _ {A : Type 0} (a : Run → ℕ → A) (points : ℕ) where
  -- an empty list has one empty stretch, or none
  pub kept_start : (g : Topology) (ws : List ℕ) → kept_over a points g (stretches_left g ws 0) ≡ kept_over a points g (stretches g ws)
  unfolding stretches_left stretches whole_left kept_over kept_by primitive_count tab flat
  kept_start Triangles [] = refl
  kept_start Triangles (w ∷ ws) = rw (lt-ltb 0 (suc (length ws)) (omega arith)) refl
  kept_start Fans ws = refl
  kept_start Strips ws = refl
  kept_start Quads [] = refl
  kept_start Quads (w ∷ ws) = rw (lt-ltb 0 (suc (length ws)) (omega arith)) refl

  module _ (g : Topology) where
    kept_cons : (r : Run) (rs : List Run) → kept_over a points g (r ∷ rs) ≡ kept_by (a r) points g r.items ++ kept_over a points g rs
    unfolding kept_over flat
    kept_cons r rs = refl

    -- one stretch more
    module _ {rs rs' : List Run} {r : Run} (first : rs ≡ r ∷ rs') where
      pub kept_first : kept_over a points g rs ≡ kept_by (a r) points g r.items ++ kept_over a points g rs'
      kept_first = ap (kept_over a points g) first ∙ kept_cons r rs'

      -- as it is counted: c of it before them
      pub count_first : (c : ℕ) {m all : ℕ} → c + length (kept_over a points g rs) ≡ all → m ≡ length (kept_by (a r) points g r.items) → c + m + length (kept_over a points g rs') ≡ all
      count_first c e k = omega (arith, e, k, ap length kept_first, length-append (kept_by (a r) points g r.items) (kept_over a points g rs'))

    -- and none
    pub kept_end : {rs : List Run} → rs ≡ [] → kept_over a points g rs ≡ []
    unfolding kept_over flat
    kept_end e = ap (kept_over a points g) e

    pub count_end : {rs : List Run} (c : ℕ) {all : ℕ} → rs ≡ [] → c + length (kept_over a points g rs) ≡ all → c ≡ all
    count_end c n e = omega (arith, e, ap length (kept_end n))
