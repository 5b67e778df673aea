-- FORMAT 6.3: the lines by the vertex numbers of the corners, run by run, are the mesh's indices.
use mathlib.Core.Path.{◌≡◌, refl, sym, ap, ◌∙◌}
use mathlib.Core.Bool.{Bool, true, false, cond}
use Rattle.std.specs.Prelude.{Option, None, Some}
use mathlib.Core.List.{List, [], ◌∷◌, ◌++◌, map, map-append}
use Prim.Native.Nat.{ℕ, suc, ◌+◌}
use native.Mathlib.Nat.{add-zero, suc-add, add-suc}
use lib.Dec.{ltb}
use lib.ListN.{get_or, drop}
use Rattle.bits.specs.Bits.{entries}
use Rattle.bits.specs.declared.Words4.{Words4}
use Rattle.block.specs.Runs.{Run, runs}
use Rattle.lists.specs.Lists.{map_n, join_n, place}
use Rattle.lists.proofs.Lists.{head_left}
use Rattle.mesh.specs.Words.{no2, no3}
use Rattle.mesh.specs.Vertices.{Key, same_key}
use Rattle.mesh.specs.FaceSet.{Rest, point_count, colour_of}
use Rattle.mesh.specs.Lines.{these, somes, line, joined, item_of, items_of, line_keys, line_ends, line_indices}
use Rattle.mesh.specs.Sizes.{named}
use Rattle.lines.specs.Steps.{vertex_at, corner_after, pairs, run_pairs}

through : (Key → ℕ) → Option Key → Option ℕ
through f None = None
through f (Some a) = Some (f a)

line_through : (f : Key → ℕ) (p : Option Key) (k : Key) → line (through f p) (Some (f k)) ≡ map f (line p (Some k))
unfolding through
line_through f None k = refl
line_through f (Some a) k = refl

module _ (missing : Words4) (R : Rest) (coord : List ℕ) (f : Key → ℕ) (ns : List ℕ) where
  -- ns from number c on are the vertices of a run's corners, and then others
  run_ends : (num : ℕ) (others : List ℕ) (es : List ℕ) (k c : ℕ) (prev : Option Key)
      → drop c ns ≡ map f (somes (map_n (item_of missing R coord num) k es)) ++ others
      → (pairs (point_count R.head) ns c (through f prev) es ≡ map f (joined prev (map_n (item_of missing R coord num) k es))) × (drop (c + named (point_count R.head) es) ns ≡ others)
  unfolding pairs vertex_at corner_after named joined somes map_n item_of through
  run_ends num others [] k c prev h = (refl, ap (λ (j : ℕ). drop j ns) (add-zero c) ∙ h)
  run_ends num others (e ∷ es) k c prev h = go (ltb e (point_count R.head)) prev (run_ends num others es (suc k)) h
    where
      rest : List (Option Key)
      rest = map_n (item_of missing R coord num) (suc k) es

      key : Key
      key = record { point = e; normal = no3; colour = colour_of missing R coord num k; texture = no2 }

      go : (b : Bool) (prev : Option Key)
          → ((c : ℕ) (o : Option Key) → drop c ns ≡ map f (somes rest) ++ others
          → (pairs (point_count R.head) ns c (through f o) es ≡ map f (joined o rest)) × (drop (c + named (point_count R.head) es) ns ≡ others))
          → drop c ns ≡ map f (these (cond b (Some key) None) ++ somes rest) ++ others
          → (line (through f prev) (cond b (Some (get_or ns c 0)) None) ++ pairs (point_count R.head) ns (cond b (suc c) c) (cond b (Some (get_or ns c 0)) None) es
          ≡ map f (line prev (cond b (Some key) None) ++ joined (cond b (Some key) None) rest))
          × (drop (c + cond b (suc (named (point_count R.head) es)) (named (point_count R.head) es)) ns ≡ others)
      go true prev ih q =
          let u = head_left ns c (f key) (map f (somes rest) ++ others) 0 q in
          let g = ih (suc c) (Some key) u.1 in (
            ap (λ (n : ℕ). line (through f prev) (Some n) ++ pairs (point_count R.head) ns (suc c) (Some n) es) u.0
                ∙ (λ i. line_through f prev key i ++ g.0 i)
                ∙ sym (map-append f (line prev (Some key)) (joined (Some key) rest)),
            ap (λ (j : ℕ). drop j ns) (add-suc c (named (point_count R.head) es) ∙ sym (suc-add c (named (point_count R.head) es))) ∙ g.1,
          )
      go false None ih q = ih c None q
      go false (Some a) ih q = ih c None q

  ends_from : (rs : List Run) (num c : ℕ) → drop c ns ≡ map f (join_n (line_keys missing R coord) num rs)
      → run_pairs (point_count R.head) ns c rs ≡ map f (join_n (line_ends missing R coord) num rs)
  unfolding run_pairs join_n line_keys line_ends items_of through
  ends_from [] num c h = refl
  ends_from (r ∷ rs) num c h =
      let more = join_n (line_keys missing R coord) (suc num) rs in
      let g = run_ends num (map f more) r.items r.start c None (h ∙ map-append f (line_keys missing R coord num r) more) in
      (λ i. g.0 i ++ ends_from rs (suc num) (c + named (point_count R.head) r.items) g.1 i)
      ∙ sym (map-append f (line_ends missing R coord num r) (join_n (line_ends missing R coord) (suc num) rs))

pub indices_runs : (missing : Words4) (R : Rest) (coord : List ℕ) (vs : List Key)
    → line_indices missing R coord vs
    ≡ run_pairs (point_count R.head) (map (λ (k : Key). place same_key k vs) (join_n (line_keys missing R coord) 0 (runs (entries coord)))) 0 (runs (entries coord))
unfolding line_indices
indices_runs missing R coord vs = sym (ends_from missing R coord (λ (k : Key). place same_key k vs) _ (runs (entries coord)) 0 0 refl)
