-- FORMAT 4, 6.4, 8.5: what the mesh of a triangle, fan, strip or quad set has, from its listing alone.
use Prim.Native.Nat.{ℕ, ◌*◌, ◌^◌, ◌≤◌, ◌<◌}
use mathlib.Core.Path.{◌≡◌, refl, ap, ◌∙◌}
use mathlib.Core.Bool.{Bool, true, false, cond}
use mathlib.Core.List.{List, [], ◌∷◌, ◌++◌, map}
use native.Mathlib.Omega.{arith}
use lib.ListN.{length}
use Rattle.bits.specs.Bits.{entries}
use Rattle.bits.specs.declared.Words4.{Words4}
use Rattle.bits.proofs.Entries.{entries_bytes}
use Rattle.block.specs.declared.topology.Topology.{Topology}
use Rattle.lists.specs.Lists.{all_below}
use Rattle.block.specs.Runs.{Run, runs, corners, triangles, sum_over}
use Rattle.block.proofs.EditionLaws.{count_narrow}
use Rattle.lists.specs.Loops.{All, tab}
use Rattle.lists.proofs.Lists.{All_of, All_map, All_append, All_get_or, All_of_map, All_by, All_flat}
use Rattle.primitives.specs.Primitives.{stretches, primitive_count, primitive_of, primitive_run, stretch_runs, face_list}
use Rattle.lists.proofs.Below.{all_below_lem}
use Rattle.mesh.specs.FaceSet.{rest_of, coord_in, point_count, convex_frame}
use Rattle.mesh.specs.Primitives.{listed_coord, primitive_mesh}
use Rattle.mesh.proofs.Facts.{list_indices, list_vertices}

-- ---- the listing is of words

abbrev IsWord : ℕ → Type 0
IsWord w = w < 2 ^ 32

module _ (p : ℕ) (low : p ≤ 2 ^ 32) (g : Topology) where
  run_words : (es : List ℕ) (k : ℕ) → All IsWord (primitive_run p g es k)
  unfolding primitive_run
  run_words es k = go (all_below p (primitive_of g es k)) refl
    where
      go : (b : Bool) → all_below p (primitive_of g es k) ≡ b → All IsWord (cond b (primitive_of g es k ++ 0xffff_ffff ∷ []) [])
      go true e = All_append IsWord (primitive_of g es k) (0xffff_ffff ∷ []) (All_map (λ w l. omega arith) (primitive_of g es k) (all_below_lem p (primitive_of g es k) e)) (omega arith, tt)
      go false e = tt

  stretch_words : (r : Run) → All IsWord (stretch_runs p g r)
  unfolding stretch_runs
  stretch_words r =
      let n = primitive_count g (length r.items) in
      All_flat IsWord (tab (primitive_run p g r.items) n 0) (All_by (λ (x : List ℕ). All IsWord x) (primitive_run p g r.items) n (λ k l. run_words r.items k))

  list_words : (ws : List ℕ) → All IsWord (face_list p g ws)
  unfolding face_list
  list_words ws =
      All_flat IsWord (map (stretch_runs p g) (stretches g ws))
      (All_of_map (λ (x : List ℕ). All IsWord x) (stretch_runs p g) (stretches g ws) (All_of (λ (r : Run). stretch_words r) (stretches g ws)))

-- FORMAT 6.4: so its bytes are those of its entries
pub listed_entries : (g : Topology) (bs : List ℕ) → entries (listed_coord g bs) ≡ face_list (point_count (rest_of bs).head) g (entries (coord_in bs))
unfolding listed_coord rest_of
listed_entries g bs =
    let p = point_count (rest_of bs).head in
    let l : p ≤ 2 ^ 32 = omega (arith, count_narrow bs 0) in
    let ws = face_list p g (entries (coord_in bs)) in
    entries_bytes ws (λ k b. All_get_or IsWord ws (list_words p l g (entries (coord_in bs))) 0 k b)

-- ---- FORMAT 4: N, and at most a vertex for each corner
module _ (missing : Words4) (g : Topology) (bs : List ℕ) where
  pub primitive_indices : length (primitive_mesh missing g bs).indices ≡ 3 * sum_over (triangles (point_count (rest_of bs).head)) (runs (face_list (point_count (rest_of bs).head) g (entries (coord_in bs))))
  unfolding primitive_mesh
  primitive_indices =
      list_indices missing (rest_of bs) (listed_coord g bs) (convex_frame (rest_of bs))
      ∙ ap (λ (ws : List ℕ). 3 * sum_over (triangles (point_count (rest_of bs).head)) (runs ws)) (listed_entries g bs)

  pub primitive_vertices : length (primitive_mesh missing g bs).sources ≤ sum_over (corners (point_count (rest_of bs).head)) (runs (face_list (point_count (rest_of bs).head) g (entries (coord_in bs))))
  unfolding primitive_mesh
  primitive_vertices =
      let e = ap (λ (ws : List ℕ). sum_over (corners (point_count (rest_of bs).head)) (runs ws)) (listed_entries g bs) in
      rw (← e) (list_vertices missing (rest_of bs) (listed_coord g bs) (convex_frame (rest_of bs)))
