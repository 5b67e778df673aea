-- FORMAT 6.4: the runs of the listing are the kept primitives, one run each. Assumes nothing.
use Prim.Native.Nat.{ℕ, zero, suc, ◌+◌, ◌-◌, ◌*◌, ◌%◌, ◌≤◌, ◌<◌}
use mathlib.Core.Path.{◌≡◌, refl, sym, ap, ◌∙◌}
use mathlib.Core.Bool.{Bool, true, false, cond}
use mathlib.Core.List.{List, [], ◌∷◌, ◌++◌, map, map-append, map-map, append_assoc, append-nil}
use native.Mathlib.Omega.{arith}
use native.Mathlib.Nat.{mul-le-mul}
use lib.Dec.{eqb}
use lib.ListN.{length, length-map}
use Rattle.lists.specs.Loops.{tab, All}
use Rattle.lists.specs.Lists.{flat, total, all_below}
use Rattle.lists.proofs.Below.{all_below_lem}
use Rattle.lists.proofs.Lists.{All_map, All_of, All_of_map, All_by, All_flat, cond_long}
use Rattle.lists.proofs.Pieces.{flat_append, map_flat}
use Rattle.lists.proofs.Tabs.{map_tab}
use Rattle.lists.proofs.Totals.{total_each}
use Rattle.block.specs.declared.topology.Topology.{Topology}
use Rattle.block.specs.declared.topology.Topology.TheVariants.{Triangles, Fans, Strips, Quads}
use Rattle.block.specs.Runs.{ends_run, Run, run_of, runs_from, runs, kept, faces, corners, triangles, sum_over, totals}
use Rattle.block.proofs.Ends.{minus_one_ends, number_goes_on}
use Rattle.block.proofs.RunLaws.{kept_all, face_kept}
use Rattle.primitives.specs.Primitives.{stretches, primitive_count, places_of, primitive_of, primitive_run, stretch_runs, face_list}
use Rattle.primitives.specs.Kept.{width_of, piece_of, kept_by, kept_over, kept_primitives}

-- ---- a run that an entry closes

abbrev pub GoesOn : ℕ → Type 0
GoesOn w = ends_run w ≡ false

pub runs_closed : (s e : ℕ) (ps ws : List ℕ) → All GoesOn ps → ends_run e ≡ true → runs_from s (ps ++ e ∷ ws) ≡ run_of s ps ∷ runs_from (s + (length ps + 1)) ws
unfolding runs_from
runs_closed s e [] ws h q = let b : s + 1 ≡ suc s = omega arith in rw (q, b)
runs_closed s e (p ∷ ps) ws h q =
    let b : suc s + (length ps + 1) ≡ s + (suc (length ps) + 1) = omega arith in
    rw (h.0, runs_closed (suc s) e ps ws h.1 q, b)

-- a primitive as the listing has it
abbrev pub closed : List ℕ → List ℕ
closed ps = ps ++ 0xffff_ffff ∷ []

-- the first of some, and the rest
pub closed_first : (s : ℕ) (ps : List ℕ) (l : List (List ℕ)) → All GoesOn ps → runs_from s (flat (map closed (ps ∷ l))) ≡ run_of s ps ∷ runs_from (s + (length ps + 1)) (flat (map closed l))
unfolding flat
closed_first s ps l h = rw (append_assoc ps (0xffff_ffff ∷ []) (flat (map closed l))) (runs_closed s 0xffff_ffff ps (flat (map closed l)) h minus_one_ends)

pub closed_sum : (f : List ℕ → ℕ) (s : ℕ) (l : List (List ℕ)) → All (λ (ps : List ℕ). All GoesOn ps) l → sum_over f (runs_from s (flat (map closed l))) ≡ total f l
unfolding total sum_over runs_from flat
closed_sum f s [] h = refl
closed_sum f s (ps ∷ l) h =
    ap (sum_over f) (closed_first s ps l h.0) ∙ ap (λ (n : ℕ). f ps + n) (closed_sum f (s + (length ps + 1)) l h.1)

-- ---- the listing, of its kept primitives

closed_append : (x y : List (List ℕ)) → flat (map closed (x ++ y)) ≡ flat (map closed x) ++ flat (map closed y)
closed_append x y = ap flat (map-append closed x y) ∙ flat_append (map closed x) (map closed y)

module _ (points : ℕ) (g : Topology) where
  module _ (es : List ℕ) where
    piece_closed : (k : ℕ) → primitive_run points g es k ≡ flat (map closed (piece_of (primitive_of g es) points g es k))
    unfolding primitive_run piece_of flat
    piece_closed k = go (primitive_of g es k) (all_below points (primitive_of g es k))
      where
        go : (ps : List ℕ) (b : Bool) → cond b (ps ++ 0xffff_ffff ∷ []) [] ≡ flat (map closed (cond b (ps ∷ []) []))
        go ps true = sym (append-nil (closed ps))
        go ps false = refl

    pieces_closed : (n i : ℕ) → flat (tab (primitive_run points g es) n i) ≡ flat (map closed (flat (tab (piece_of (primitive_of g es) points g es) n i)))
    unfolding flat tab
    pieces_closed zero i = refl
    pieces_closed (suc n) i =
        (λ j. piece_closed i j ++ pieces_closed n (suc i) j)
        ∙ sym (closed_append (piece_of (primitive_of g es) points g es i) (flat (tab (piece_of (primitive_of g es) points g es) n (suc i))))

  stretches_closed : (rs : List Run) → flat (map (stretch_runs points g) rs) ≡ flat (map closed (kept_over (λ r. primitive_of g r.items) points g rs))
  unfolding flat kept_over kept_by stretch_runs
  stretches_closed [] = refl
  stretches_closed (r ∷ rs) =
      (λ j. pieces_closed r.items (primitive_count g (length r.items)) 0 j ++ stretches_closed rs j)
      ∙ sym (closed_append (kept_by (primitive_of g r.items) points g r.items) (kept_over (λ r. primitive_of g r.items) points g rs))

  -- FORMAT 6.4: the listing has each kept primitive, closed by -1, and nothing else
  pub list_closed : (ws : List ℕ) → face_list points g ws ≡ flat (map closed (kept_primitives points g ws))
  unfolding face_list kept_primitives
  list_closed ws = stretches_closed (stretches g ws)

-- ---- a fact of each kept primitive

module _ {A : Type 0} (P : A → Type 0) (points : ℕ) (g : Topology) where
  pub all_kept : (a : ℕ → A) (es : List ℕ) → ((k : ℕ) → k < primitive_count g (length es) → all_below points (primitive_of g es k) ≡ true → P (a k)) → All P (kept_by a points g es)
  unfolding kept_by piece_of
  all_kept a es h = All_flat P (tab (piece_of a points g es) (primitive_count g (length es)) 0)
      (All_by (λ (x : List A). All P x) (piece_of a points g es) (primitive_count g (length es)) (λ k l. one k (all_below points (primitive_of g es k)) (h k l)))
    where
      one : (k : ℕ) (b : Bool) → (b ≡ true → P (a k)) → All P (cond b (a k ∷ []) [])
      one k true f = (f refl, tt)
      one k false f = tt

  pub all_over : (a : Run → ℕ → A) (rs : List Run)
      → All (λ (r : Run). (k : ℕ) → k < primitive_count g (length r.items) → all_below points (primitive_of g r.items k) ≡ true → P (a r k)) rs → All P (kept_over a points g rs)
  unfolding kept_over
  all_over a rs h = All_flat P (map (λ (r : Run). kept_by (a r) points g r.items) rs)
      (All_of_map (λ (x : List A). All P x) (λ (r : Run). kept_by (a r) points g r.items) rs (All_map (λ r f. all_kept (a r) r.items f) rs h))

-- what is said of them can be said in two steps
module _ {A B : Type 0} (f : A → B) (points : ℕ) (g : Topology) where
  pub map_kept : (a : ℕ → A) (es : List ℕ) → map f (kept_by a points g es) ≡ kept_by (λ k. f (a k)) points g es
  unfolding kept_by piece_of
  map_kept a es =
      map_flat f (tab (piece_of a points g es) (primitive_count g (length es)) 0)
      ∙ ap flat (map_tab (piece_of a points g es) (map f) (primitive_count g (length es)) 0 ∙ (λ i. tab (λ k. one k (all_below points (primitive_of g es k)) i) (primitive_count g (length es)) 0))
    where
      one : (k : ℕ) (b : Bool) → map f (cond b (a k ∷ []) []) ≡ cond b (f (a k) ∷ []) []
      one k true = refl
      one k false = refl

  pub map_over : (a : Run → ℕ → A) (rs : List Run) → map f (kept_over a points g rs) ≡ kept_over (λ r k. f (a r k)) points g rs
  unfolding kept_over
  map_over a rs =
      map_flat f (map (λ (r : Run). kept_by (a r) points g r.items) rs)
      ∙ ap flat (map-map (map f) (λ (r : Run). kept_by (a r) points g r.items) rs ∙ (λ i. map (λ (r : Run). map_kept (a r) r.items i) rs))

-- each has as many corners as its set says
pub places_long : (g : Topology) (k : ℕ) → length (places_of g k) ≡ width_of g
unfolding places_of width_of
places_long Triangles k = refl
places_long Fans k = refl
places_long Strips k = cond_long (eqb (k % 2) 1) _ _ refl refl
places_long Quads k = refl

pub primitive_long : (g : Topology) (es : List ℕ) (k : ℕ) → length (primitive_of g es k) ≡ width_of g
unfolding primitive_of
primitive_long g es k = length-map (places_of g k) _ ∙ places_long g k

pub width_three : (g : Topology) → 3 ≤ width_of g
unfolding width_of
width_three Triangles = omega arith
width_three Fans = omega arith
width_three Strips = omega arith
width_three Quads = omega arith

pub width_four : (g : Topology) → width_of g ≤ 4
unfolding width_of
width_four Triangles = omega arith
width_four Fans = omega arith
width_four Strips = omega arith
width_four Quads = omega arith

-- a kept primitive: a face of the listing, whose entries end no run
pub record Primitive (points : ℕ) (g : Topology) (ps : List ℕ) : Type 0 where
  pub size : length ps ≡ width_of g
  pub whole : kept points ps ≡ true
  pub below : All (λ (w : ℕ). w < points) ps

pub primitives_are : (points : ℕ) (g : Topology) (ws : List ℕ) → All (Primitive points g) (kept_primitives points g ws)
unfolding kept_primitives
primitives_are points g ws =
    all_over (Primitive points g) points g (λ r. primitive_of g r.items) (stretches g ws)
    (All_of (λ r k l e.
    let s = primitive_long g r.items k in
    let w = width_three g in
    record {
      size = s;
      whole = sym (kept_all points (primitive_of g r.items k) (omega arith) (sym e));
      below = all_below_lem points (primitive_of g r.items k) e;
    }) (stretches g ws))

pub goes_on : {points : ℕ} {g : Topology} {ps : List ℕ} → points ≤ 0x8000_0000 → Primitive points g ps → All GoesOn ps
goes_on {points} {g} {ps} h p = All_map (λ w l. number_goes_on w (omega arith)) ps p.below

-- ---- what the faces of the listing have together

module _ {points : ℕ} (low : points ≤ 0x8000_0000) (g : Topology) (ws : List ℕ) where
  listing_sum : (f : List ℕ → ℕ) (c : ℕ) → ((ps : List ℕ) → Primitive points g ps → f ps ≡ c) → sum_over f (runs (face_list points g ws)) ≡ c * length (kept_primitives points g ws)
  listing_sum f c h =
      let all = primitives_are points g ws in
      ap (λ (l : List ℕ). sum_over f (runs l)) (list_closed points g ws)
      ∙ closed_sum f 0 (kept_primitives points g ws) (All_map (λ ps p. goes_on low p) (kept_primitives points g ws) all)
      ∙ total_each f c (kept_primitives points g ws) (All_map h (kept_primitives points g ws) all)

  pub listing_faces : sum_over (faces points) (runs (face_list points g ws)) ≡ length (kept_primitives points g ws)
  listing_faces = let e = listing_sum (faces points) 1 (λ ps p. (face_kept points ps p.whole).0) in omega arith

  pub listing_corners : sum_over (corners points) (runs (face_list points g ws)) ≡ width_of g * length (kept_primitives points g ws)
  listing_corners = listing_sum (corners points) (width_of g) (λ ps p. (face_kept points ps p.whole).1 ∙ p.size)

  pub listing_triangles : sum_over (triangles points) (runs (face_list points g ws)) ≡ (width_of g - 2) * length (kept_primitives points g ws)
  listing_triangles = listing_sum (triangles points) (width_of g - 2) (λ ps p. (face_kept points ps p.whole).2 ∙ ap (λ (n : ℕ). n - 2) p.size)

  -- as they are counted
  pub totals_are : {n w : ℕ} → n ≡ length (kept_primitives points g ws) → w ≡ width_of g → record { faces = n; corners = w * n; triangles = (w - 2) * n } ≡ totals points (runs (face_list points g ws))
  totals_are {n} {w} en ew = λ i. record {
    faces = (en ∙ sym listing_faces) i;
    corners = ((λ j. ew j * en j) ∙ sym listing_corners) i;
    triangles = ((λ j. (ew j - 2) * en j) ∙ sym listing_triangles) i;
  }

module _ (g : Topology) (n : ℕ) {w : ℕ} (e : w ≡ width_of g) where
  pub few_corners : w * n ≤ 4 * n
  few_corners = mul-le-mul {n₂ = 4} {m₂ = n} (let h = width_four g in omega arith) (omega arith)

  pub few_triangles : (w - 2) * n ≤ 4 * n
  few_triangles = mul-le-mul {n₂ = 4} {m₂ = n} (let h = width_four g in omega arith) (omega arith)
