-- FORMAT 6.4: the primitives that name no point that is not there.
use Rattle.std.specs.Prelude.{ℕ, cond, List, [], ◌∷◌, map, length}
use Rattle.lists.specs.Loops.{tab}
use Rattle.lists.specs.Lists.{flat, all_below}
use Rattle.block.specs.declared.topology.Topology.{Topology}
use Rattle.block.specs.declared.topology.Topology.TheVariants.{Triangles, Fans, Strips, Quads}
use Rattle.block.specs.Runs.{Run}
use Rattle.primitives.specs.Primitives.{primitive_count, primitive_of, stretches}

-- FORMAT 6.4: how many corners each has
unfoldable pub width_of : Topology → ℕ
width_of Triangles = 3
width_of Fans = 3
width_of Strips = 3
width_of Quads = 4

module _ {A : Type 0} where
  -- what a says of primitive k, of a stretch with the entries es; nothing of one that is not kept
  unfoldable pub piece_of : (ℕ → A) → ℕ → Topology → List ℕ → ℕ → List A
  piece_of a points g es k = cond (all_below points (primitive_of g es k)) (a k ∷ []) []

  -- of each primitive of a stretch
  unfoldable pub kept_by : (ℕ → A) → ℕ → Topology → List ℕ → List A
  kept_by a points g es = flat (tab (piece_of a points g es) (primitive_count g (length es)) 0)

  -- and of some stretches
  unfoldable pub kept_over : (Run → ℕ → A) → ℕ → Topology → List Run → List A
  kept_over a points g rs = flat (map (λ (r : Run). kept_by (a r) points g r.items) rs)

-- FORMAT 6.4: the entries of the kept primitives of the entries ws
unfoldable pub kept_primitives : ℕ → Topology → List ℕ → List (List ℕ)
kept_primitives points g ws = kept_over (λ r. primitive_of g r.items) points g (stretches g ws)
