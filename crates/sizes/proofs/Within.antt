-- FORMAT 4, 6.1: runs have no more entries than their list, so what is counted of them is no more; and products that fit a word.
use mathlib.Core.Bool.{Bool, true, false, cond}
use mathlib.Core.List.{List, [], ◌∷◌, ◌++◌}
use Prim.Native.Nat.{ℕ, zero, suc, ◌-◌, ◌*◌, ◌≤◌}
use native.Mathlib.Nat.{le_trans}
use native.Mathlib.Omega.{arith}
use lib.Dec.{ltb}
use lib.ListN.{length, length-append}
use Rattle.block.specs.declared.topology.Topology.{Topology}
use Rattle.block.specs.declared.topology.Topology.TheVariants.{Triangles, Fans, Strips, Quads}
use Rattle.block.specs.Runs.{Run, ends_run, before, runs_from, runs, kept, triangles, sum_over}
use Rattle.lists.specs.Loops.{tab}
use Rattle.lists.specs.Lists.{flat, all_below}
use Rattle.primitives.specs.Primitives.{stretches, primitive_count, primitive_of, face_list}
use Rattle.primitives.specs.Kept.{width_of, piece_of, kept_by, kept_over, kept_primitives}
use Rattle.primitives.proofs.Closed.{listing_triangles}
use Rattle.primitives.proofs.Counting.{count_most}
use Rattle.mesh.specs.Sizes.{lines_after}

items_within : (es : List ℕ) (s : ℕ) → sum_over length (runs_from s es) ≤ length es
unfolding sum_over runs_from
items_within [] s = omega arith
items_within (e ∷ es) s = go (ends_run e) (runs_from (suc s) es) (items_within es (suc s))
  where
    go : (b : Bool) (rs : List Run) → sum_over length rs ≤ length es → sum_over length (before b s e rs) ≤ suc (length es)
    go true rs h = omega arith
    go false [] h = omega arith
    go false (r ∷ rs) h = omega arith

sum_most : (f : List ℕ → ℕ) → ((ws : List ℕ) → f ws ≤ length ws) → (rs : List Run) → sum_over f rs ≤ sum_over length rs
unfolding sum_over
sum_most f h [] = omega arith
sum_most f h (r ∷ rs) = omega (arith, h r.items, sum_most f h rs)

sum_within : (f : List ℕ → ℕ) → ((ws : List ℕ) → f ws ≤ length ws) → (es : List ℕ) → sum_over f (runs es) ≤ length es
sum_within f h es = le_trans (sum_most f h (runs es)) (items_within es 0)

pub triangles_within : (p : ℕ) (es : List ℕ) → sum_over (triangles p) (runs es) ≤ length es
unfolding triangles
triangles_within p es = sum_within (triangles p) one es
  where
    one : (ws : List ℕ) → triangles p ws ≤ length ws
    one ws = go (kept p ws)
      where
        go : (b : Bool) → cond b (length ws - 2) 0 ≤ length ws
        go true = omega arith
        go false = omega arith

pub lines_within : (p : ℕ) (es : List ℕ) → sum_over (lines_after p false) (runs es) ≤ length es
unfolding lines_after
lines_within p es = sum_within (lines_after p false) (λ ws. one ws false) es
  where
    one : (ws : List ℕ) (prev : Bool) → lines_after p prev ws ≤ length ws
    one [] prev = omega arith
    one (w ∷ ws) prev = go prev (ltb w p) (lines_after p (ltb w p) ws) (one ws (ltb w p))
      where
        go : (a b : Bool) (n : ℕ) → n ≤ length ws → cond a (cond b (suc n) n) n ≤ suc (length ws)
        go true true n h = omega arith
        go true false n h = omega arith
        go false b n h = omega arith

-- ---- FORMAT 6.4: no more primitives are kept than there are entries

module _ {A : Type 0} (points : ℕ) (g : Topology) where
  pieces_few : (a : ℕ → A) (es : List ℕ) (n i : ℕ) → length (flat (tab (piece_of a points g es) n i)) ≤ n
  unfolding flat tab piece_of
  pieces_few a es zero i = omega arith
  pieces_few a es (suc n) i = go (all_below points (primitive_of g es i)) (pieces_few a es n (suc i))
    where
      go : (b : Bool) → length (flat (tab (piece_of a points g es) n (suc i))) ≤ n → length (cond b (a i ∷ []) [] ++ flat (tab (piece_of a points g es) n (suc i))) ≤ suc n
      go true h = omega arith
      go false h = omega arith

  over_few : (a : Run → ℕ → A) (rs : List Run) → length (kept_over a points g rs) ≤ sum_over length rs
  unfolding kept_over kept_by flat sum_over
  over_few a [] = omega arith
  over_few a (r ∷ rs) =
      let n = primitive_count g (length r.items) in
      rw (length-append (flat (tab (piece_of (a r) points g r.items) n 0)))
      (omega (arith, pieces_few (a r) r.items n 0, count_most g (length r.items), over_few a rs))

stretches_within : (g : Topology) (ws : List ℕ) → sum_over length (stretches g ws) ≤ length ws
unfolding stretches sum_over
stretches_within Triangles ws = omega arith
stretches_within Fans ws = items_within ws 0
stretches_within Strips ws = items_within ws 0
stretches_within Quads ws = omega arith

kept_few : (points : ℕ) (g : Topology) (ws : List ℕ) → length (kept_primitives points g ws) ≤ length ws
unfolding kept_primitives
kept_few points g ws = le_trans (over_few points g (λ r. primitive_of g r.items) (stretches g ws)) (stretches_within g ws)

-- a quad has two triangles
pub primitives_within : {points : ℕ} → points ≤ 0x8000_0000 → (g : Topology) (ws : List ℕ) → sum_over (triangles points) (runs (face_list points g ws)) ≤ 2 * length ws
unfolding width_of
primitives_within {points} low Triangles ws = omega (arith, listing_triangles low Triangles ws, kept_few points Triangles ws)
primitives_within {points} low Fans ws = omega (arith, listing_triangles low Fans ws, kept_few points Fans ws)
primitives_within {points} low Strips ws = omega (arith, listing_triangles low Strips ws, kept_few points Strips ws)
primitives_within {points} low Quads ws = omega (arith, listing_triangles low Quads ws, kept_few points Quads ws)
