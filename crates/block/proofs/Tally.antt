-- The kept faces of an index list, counted run by run: one run more, and all of them. FORMAT 6.2. Assumes nothing.
use Prim.Native.Nat.{ℕ, ◌+◌, ◌-◌, ◌/◌, ◌≤◌}
use mathlib.Core.Path.{◌≡◌}
use mathlib.Core.Bool.{true, false}
use mathlib.Core.List.{List, []}
use native.Mathlib.Omega.{arith}
use lib.ListN.{length}
use Rattle.bits.specs.Bits.{entries}
use Rattle.bits.proofs.Entries.{entries_length}
use Rattle.block.specs.declared.runs.Runs.{Runs}
use Rattle.block.specs.Runs.{runs, kept, faces, corners, triangles, sum_over, totals}
use Rattle.block.specs.Walk.{rest, RunGiven}
use Rattle.block.proofs.RunLaws.{face_kept, face_lost}
use Rattle.block.proofs.Walks.{Walks, walks_on, sum_first, sum_end}

-- a walk over the list bs stands at w: the runs before it have n faces, of c corners and d triangles
pub record Tallied (points : ℕ) (bs : List ℕ) (w : Runs) (n c d : ℕ) : Type 0 where
  pub walk : Walks bs w.list.now w.start
  pub faces_few : n ≤ w.start
  pub corners_few : c ≤ w.start
  pub triangles_few : d ≤ w.start
  pub faces_left : n + sum_over (faces points) (rest w) ≡ sum_over (faces points) (runs (entries bs))
  pub corners_left : c + sum_over (corners points) (rest w) ≡ sum_over (corners points) (runs (entries bs))
  pub triangles_left : d + sum_over (triangles points) (rest w) ≡ sum_over (triangles points) (runs (entries bs))

module _ {points : ℕ} {bs : List ℕ} {w : Runs} {n c d : ℕ} (I : Tallied points bs w n c d) where
  module _ {w' : Runs} {s : ℕ} {r : List ℕ} (G : RunGiven w w' s r) where
    -- n', c' and d' are those after the run r
    one_more : {n' c' d' : ℕ} → n' ≡ n + faces points (entries r) → c' ≡ c + corners points (entries r) → d' ≡ d + triangles points (entries r)
        → n' ≤ n + 1 → c' ≤ c + length r / 4 → d' ≤ d + length r / 4 → Tallied points bs w' n' c' d'
    one_more en ec ed ln lc ld = record {
      walk = walks_on I.walk G.passes G.part.within;
      faces_few = omega (arith, I.faces_few, G.passes.next);
      corners_few = omega (arith, I.corners_few, G.passes.next);
      triangles_few = omega (arith, I.triangles_few, G.passes.next);
      faces_left = omega (arith, sum_first (faces points) G.first, I.faces_left);
      corners_left = omega (arith, sum_first (corners points) G.first, I.corners_left);
      triangles_left = omega (arith, sum_first (triangles points) G.first, I.triangles_left);
    }

    pub tally_kept : {n' c' d' : ℕ} → kept points (entries r) ≡ true → n' ≡ n + 1 → c' ≡ c + length r / 4 → d' ≡ d + (length r / 4 - 2) → Tallied points bs w' n' c' d'
    tally_kept e en ec ed =
        let k = face_kept points (entries r) e in
        let l = entries_length r in
        one_more (omega (arith, k.0)) (omega (arith, k.1)) (omega (arith, k.2)) (omega arith) (omega arith) (omega arith)

    pub tally_lost : kept points (entries r) ≡ false → Tallied points bs w' n c d
    tally_lost e =
        let k = face_lost points (entries r) e in one_more (omega (arith, k.0)) (omega (arith, k.1)) (omega (arith, k.2)) (omega arith) (omega arith) (omega arith)

  pub tally_all : rest w ≡ [] → record { faces = n; corners = c; triangles = d } ≡ totals points (runs (entries bs))
  tally_all e = λ i. record {
    faces = sum_end (faces points) e I.faces_left i;
    corners = sum_end (corners points) e I.corners_left i;
    triangles = sum_end (triangles points) e I.triangles_left i;
  }
