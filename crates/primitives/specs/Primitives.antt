-- FORMAT 6.4: the primitives of a triangle, fan, strip or quad set, and the list of the face set that has them one by one. ISO/IEC 19775-1,
-- IndexedTriangleSet, IndexedTriangleFanSet, IndexedTriangleStripSet, IndexedQuadSet.
use Rattle.std.specs.Prelude.{ℕ, ◌+◌, ◌-◌, ◌*◌, ◌/◌, ◌%◌, cond, List, [], ◌∷◌, ◌++◌, map, eqb, length, get_or}
use Rattle.lists.specs.Loops.{tab}
use Rattle.lists.specs.Lists.{flat, all_below}
use Rattle.block.specs.declared.topology.Topology.{Topology}
use Rattle.block.specs.declared.topology.Topology.TheVariants.{Triangles, Fans, Strips, Quads}
use Rattle.block.specs.Runs.{Run, run_of, runs}

-- FORMAT 6.4: what primitives are taken from: the whole list of triangles or quads, where no entry separates; the runs of fans and strips
unfoldable pub stretches : Topology → List ℕ → List Run
stretches Triangles ws = run_of 0 ws ∷ []
stretches Fans ws = runs ws
stretches Strips ws = runs ws
stretches Quads ws = run_of 0 ws ∷ []

-- FORMAT 6.4: how many primitives a stretch of n entries has; a last one that is not full is none
unfoldable pub primitive_count : Topology → ℕ → ℕ
primitive_count Triangles n = n / 3
primitive_count Fans n = n - 2
primitive_count Strips n = n - 2
primitive_count Quads n = n / 4

-- FORMAT 6.4: where the corners of primitive k stand in its stretch; every second triangle of a strip is turned, and starts at its second entry
unfoldable pub places_of : Topology → ℕ → List ℕ
places_of Triangles k = (3 * k) ∷ (3 * k + 1) ∷ (3 * k + 2) ∷ []
places_of Fans k = 0 ∷ (k + 1) ∷ (k + 2) ∷ []
places_of Strips k = cond (eqb (k % 2) 1) ((k + 1) ∷ k ∷ (k + 2) ∷ []) (k ∷ (k + 1) ∷ (k + 2) ∷ [])
places_of Quads k = (4 * k) ∷ (4 * k + 1) ∷ (4 * k + 2) ∷ (4 * k + 3) ∷ []

-- FORMAT 6.4: the entries of primitive k, of a stretch with the entries es
unfoldable pub primitive_of : Topology → List ℕ → ℕ → List ℕ
primitive_of g es k = map (λ i. get_or es i 0) (places_of g k)

-- FORMAT 6.4: primitive k as a run that -1 ends; nothing of one that names a point that is not there
unfoldable pub primitive_run : ℕ → Topology → List ℕ → ℕ → List ℕ
primitive_run points g es k = let ps = primitive_of g es k in cond (all_below points ps) (ps ++ 0xffff_ffff ∷ []) []

-- FORMAT 6.4: the primitives of one stretch, in order
unfoldable pub stretch_runs : ℕ → Topology → Run → List ℕ
stretch_runs points g r = flat (tab (primitive_run points g r.items) (primitive_count g (length r.items)) 0)

-- FORMAT 6.4: the index list of the face set that lists the primitives of the entries ws one by one
unfoldable pub face_list : ℕ → Topology → List ℕ → List ℕ
face_list points g ws = flat (map (stretch_runs points g) (stretches g ws))
