-- FORMAT 6.4: the faces listed here are those of the face set that lists the primitives one by one.
use mathlib.Core.Path.{◌≡◌, refl, sym, ap, ◌∙◌}
use mathlib.Core.Bool.{Bool, true, false, cond}
use mathlib.Core.List.{List, [], ◌∷◌, ◌++◌, map, append_assoc}
use Prim.Native.Nat.{ℕ, zero, suc, ◌+◌, ◌-◌, ◌*◌, ◌/◌, ◌≤◌, ◌<◌}
use native.Mathlib.Omega.{arith}
use borrow.Author.Tests.{ltb-true, ltb-false}
use lib.Dec.{ltb}
use lib.ListN.{length, get_or, take, drop, length-drop}
use lib.Seq.{drop-drop, drop-append-add}
use Rattle.bits.specs.Bits.{entries}
use Rattle.bits.specs.declared.Words4.{Words4}
use Rattle.bits.proofs.Entries.{entries_length}
use Rattle.block.specs.declared.topology.Topology.{Topology}
use Rattle.block.specs.declared.topology.Topology.TheVariants.{Triangles, Fans, Strips, Quads}
use Rattle.block.specs.Runs.{Run, run_of, runs_from, runs, run_length, RunPart, next_start}
use Rattle.block.specs.Stream.{number_at, stream_index, found_of, Corner, indexed}
use Rattle.block.specs.Value.{value2_at, value3_at, value4_at}
use Rattle.block.specs.Texture.{uv_words}
use Rattle.block.proofs.Ends.{not_negative}
use Rattle.block.proofs.RunLaws.{run_part_lem, run_le}
use Rattle.block.proofs.StreamLaws.{stream_number}
use Rattle.lists.specs.Loops.{All, tab}
use Rattle.lists.specs.Lists.{map_n, join_n, flat, all_below}
use Rattle.lists.proofs.Lists.{All_map, All_of_map, All_at_map, All_both, head_left, in_drop, in_part}
use Rattle.primitives.specs.Primitives.{primitive_count, places_of, primitive_of, face_list}
use Rattle.primitives.specs.Kept.{kept_primitives}
use Rattle.primitives.specs.Stretches.{stretch_at, stretches_left, StretchPart}
use Rattle.lists.proofs.Below.{all_below_lem}
use Rattle.primitives.proofs.Closed.{closed, closed_first, list_closed, all_over, Primitive, primitives_are, goes_on}
use Rattle.primitives.proofs.Counting.{places_within}
use Rattle.primitives.proofs.Meeting.{rest_part, rest_quads, fan_part, strip_part, stretches_step, stretches_over, kept_start}
use Rattle.mesh.specs.Words.{no2, no3, no4}
use Rattle.mesh.specs.Soup.{dense}
use Rattle.mesh.specs.Texture.{fit_of, default_at}
use Rattle.mesh.specs.FaceSet.{Rest, point_count, normal_of, colour_of, texture_by, corner_by, faces_of}
use Rattle.tables.specs.Listed.{Use, faces_with}
use Rattle.faceset.specs.Listings.{use_of, listed, listings_of, corner_use}
use Rattle.faceset.specs.Adding.{points_used}
use Rattle.faceset.proofs.Faces.{listings_kept, dense_listed}
use Rattle.primitiveset.specs.Listings.{uses_of, primitive_uses, listing_of, primitive_listings}
use Rattle.primitiveset.proofs.Faces.{points_kept}

-- ---- a stretch lies in its list

abbrev Lies : List ℕ → Run → Type 0
Lies ws r = (i : ℕ) → i < length r.items → (r.start + i < length ws) × (get_or ws (r.start + i) 0 ≡ get_or r.items i 0)

module _ (ws : List ℕ) (s : ℕ) where
  at_lies : (g : Topology) → Lies ws (run_of s (stretch_at g ws s))
  unfolding stretch_at
  at_lies Triangles = in_drop 0 ws s
  at_lies Fans = in_part 0 ws s (run_length (drop s ws))
  at_lies Strips = in_part 0 ws s (run_length (drop s ws))
  at_lies Quads = in_drop 0 ws s

-- the part that holds it
module _ (bs : List ℕ) (s : ℕ) (h : s < length bs / 4) where
  abbrev run_part : List ℕ
  run_part = take (4 * (s + run_length (drop s (entries bs))) - 4 * s) (drop (4 * s) bs)

  run_here : RunPart bs s run_part
  run_here = run_part_lem bs s (s + run_length (drop s (entries bs))) refl (omega (arith, run_le (drop s (entries bs)), length-drop s (entries bs), entries_length bs))

  part_of : (g : Topology) → (r : List ℕ) × StretchPart g bs s r
  part_of Triangles = (_, rest_part bs s h)
  part_of Fans = (_, fan_part run_here)
  part_of Strips = (_, strip_part run_here)
  part_of Quads = (_, rest_quads (rest_part bs s h))

module _ (g : Topology) (bs : List ℕ) where
  lies_step : (s : ℕ) (b : Bool) → ltb s (length bs / 4) ≡ b → ((t : ℕ) → s < t → s < length bs / 4 → All (Lies (entries bs)) (stretches_left g (entries bs) t))
      → All (Lies (entries bs)) (stretches_left g (entries bs) s)
  lies_step s false e more = rw (stretches_over g bs s (ltb-false s (length bs / 4) e)) tt
  lies_step s true e more =
      let l = ltb-true s (length bs / 4) e in
      let P = part_of bs s l g in
      rw (stretches_step bs s P.0 (next_start s P.0) refl l g P.1)
      (rw P.1.items (at_lies (entries bs) s g), more (next_start s P.0) (omega arith) l)

  -- every stretch does
  left_lies : (n s : ℕ) → length bs / 4 ≤ s + n → All (Lies (entries bs)) (stretches_left g (entries bs) s)
  left_lies zero s h = rw (stretches_over g bs s (omega arith)) tt
  left_lies (suc n) s h = lies_step s (ltb s (length bs / 4)) refl (λ t l m. left_lies n t (omega arith))

  -- ---- a corner's place names its point

  module _ {points : ℕ} (low : points ≤ 0x8000_0000) where
    uses_there : (r : Run) → Lies (entries bs) r → (k : ℕ) → k < primitive_count g (length r.items) → all_below points (primitive_of g r.items k) ≡ true
        → All (λ (u : Use). Corner bs u.place u.point) (uses_of g r k)
    unfolding uses_of primitive_of
    uses_there r l k h e =
        All_of_map (λ (u : Use). Corner bs u.place u.point) (λ (i : ℕ). use_of (r.start + i) (get_or r.items i 0)) (places_of g k)
        (each (places_of g k) (places_within g (length r.items) k h) (all_below_lem points (map (λ i. get_or r.items i 0) (places_of g k)) e))
      where
        each : (ps : List ℕ) → All (λ (i : ℕ). i < length r.items) ps → All (λ (w : ℕ). w < points) (map (λ i. get_or r.items i 0) ps)
            → All (λ (i : ℕ). Corner bs (r.start + i) (get_or r.items i 0)) ps
        each [] a b = tt
        each (i ∷ ps) a b = (indexed (l i a.0).0 (l i a.0).1 (not_negative (get_or r.items i 0) (let c = b.0 in omega arith)), each ps a.1 b.1)

    pub uses_named : All (λ (us : List Use). All (λ (u : Use). Corner bs u.place u.point) us) (primitive_uses points g (entries bs))
    unfolding primitive_uses
    uses_named =
        rw (← (kept_start (uses_of g) points g (entries bs)))
        (all_over (λ (us : List Use). All (λ (u : Use). Corner bs u.place u.point) us) points g (uses_of g) (stretches_left g (entries bs) 0)
        (All_map uses_there (stretches_left g (entries bs) 0) (left_lies (length bs / 4) 0 (omega arith))))

-- ---- attributes without an index list are read at the corner's point

module _ (own : List ℕ) (none : own ≡ []) {c c' : List ℕ} {k k' p : ℕ} (at : Corner c k p) (at' : Corner c' k' p) where
  number_same : (per_vertex : Bool) (num : ℕ) → number_at own c per_vertex k num ≡ number_at own c' per_vertex k' num
  unfolding stream_index entries tab
  number_same per_vertex num =
      stream_number own c per_vertex k num p at ∙ rw none (go per_vertex) ∙ sym (stream_number own c' per_vertex k' num p at')
    where
      go : (b : Bool) → found_of (stream_index (entries []) b k num p) ≡ found_of (stream_index (entries []) b k' num p)
      go true = refl
      go false = refl

-- no attribute has an index list
pub record Plain (R : Rest) : Type 0 where
  pub colours : R.colour_index ≡ []
  pub normals : R.normal_index ≡ []
  pub textures : R.texture_index ≡ []

module _ (missing : Words4) (R : Rest) (none : Plain R) where
  corner_same : {c c' : List ℕ} (num : ℕ) {k k' p : ℕ} → Corner c k p → Corner c' k' p → corner_use missing R c num (use_of k p) ≡ corner_use missing R c' num (use_of k' p)
  unfolding corner_use corner_by normal_of colour_of texture_by
  corner_same num {k} {k'} {p} a b = λ i. record {
    point = p;
    gather = p;
    given = cond R.head.normals (value3_at R.normals (number_same R.normal_index none.normals a b R.head.normal_per_vertex num i) no3) no3;
    colour = cond R.head.colors (value4_at R.colours R.head.alpha (number_same R.colour_index none.colours a b R.head.color_per_vertex num i) missing) no4;
    texture = let listed = value2_at R.textures (number_same R.texture_index none.textures a b true num i) no2 in
        let uv = uv_words R.head.transformed R.settings.transform in
        let default = default_at R.points (fit_of R.points (point_count R.head)) p in
        cond R.head.texture_points (uv listed) (cond R.head.need_uvs (uv default) no2);
  }

  -- ---- a face, and all faces, of the listing whose bytes are B and whose entries are L

  module _ (low : point_count R.head ≤ 0x8000_0000) (g : Topology) (coord B L : List ℕ) (is : entries B ≡ L) where
    abbrev Named : List Use → Type 0
    Named us = All (λ (u : Use). Corner coord u.place u.point) us

    face_same : (num s : ℕ) (us : List Use) (more : List ℕ) → Named us → All (λ (w : ℕ). w < point_count R.head) (points_used us) → drop s L ≡ points_used us ++ more
        → map (corner_use missing R B num) (map_n use_of s (points_used us)) ≡ map (corner_use missing R coord num) us
    unfolding map_n
    face_same num s [] more a b d = refl
    face_same num s (u ∷ us) more a b d =
        let h = head_left L s u.point (points_used us ++ more) 0 d in
        let l : s < length L = omega (arith, ap length d, length-drop s L) in
        let c : Corner B s u.point = indexed (rw is l) (rw is h.0) (not_negative u.point (let z = b.0 in omega arith)) in
        λ i. corner_same num c a.0 i ∷ face_same num (suc s) us more a.1 b.1 h.1 i

    faces_same : (n s : ℕ) (uss : List (List Use)) → All (λ (us : List Use). Named us × Primitive (point_count R.head) g (points_used us)) uss → drop s L ≡ flat (map closed (map points_used uss))
        → faces_with (corner_use missing R B) (join_n (listed (point_count R.head)) n (runs_from s (flat (map closed (map points_used uss))))) ≡ faces_with (corner_use missing R coord) (map_n listing_of n uss)
    unfolding faces_with join_n map_n runs_from flat
    faces_same n s [] a d = refl
    faces_same n s (us ∷ uss) a d =
        let ps = points_used us in
        let more = flat (map closed (map points_used uss)) in
        let t = s + (length ps + 1) in
        let P = a.0.1 in
        let e : drop s L ≡ ps ++ 0xffff_ffff ∷ more = d ∙ append_assoc ps (0xffff_ffff ∷ []) more in
        let rest : drop t L ≡ more = sym (drop-drop (length ps + 1) s L) ∙ ap (drop (length ps + 1)) e ∙ drop-append-add ps (0xffff_ffff ∷ more) 1 in
        ap (λ (rs : List Run). faces_with (corner_use missing R B) (join_n (listed (point_count R.head)) n rs)) (closed_first s ps (map points_used uss) (goes_on low P))
        ∙ ap (faces_with (corner_use missing R B)) (listings_kept (point_count R.head) n (run_of s ps) (runs_from t more) P.whole)
        ∙ (λ i. face_same n s us (0xffff_ffff ∷ more) a.0.0 P.below e i ∷ faces_same (suc n) t uss a.1 rest i)

-- FORMAT 6.4: the kept faces of the face set whose coordIndex B lists the primitives one by one are those listed here, each corner at its own place in coordIndex
pub join : (missing : Words4) (R : Rest) → Plain R → point_count R.head ≤ 0x8000_0000 → (g : Topology) (coord B : List ℕ) → entries B ≡ face_list (point_count R.head) g (entries coord)
    → dense (faces_of missing R B) ≡ faces_with (corner_use missing R coord) (primitive_listings (point_count R.head) g (entries coord))
unfolding listings_of primitive_listings
join missing R none low g coord B is =
    let ws = entries coord in
    let L = face_list (point_count R.head) g ws in
    let uss = primitive_uses (point_count R.head) g ws in
    let same : map points_used uss ≡ kept_primitives (point_count R.head) g ws = points_kept (point_count R.head) g ws in
    let closes : L ≡ flat (map closed (map points_used uss)) = list_closed (point_count R.head) g ws ∙ ap (λ (l : List (List ℕ)). flat (map closed l)) (sym same) in
    let named = uses_named g coord low in
    let prims = All_at_map (Primitive (point_count R.head) g) points_used uss (rw same (primitives_are (point_count R.head) g ws)) in
    dense_listed missing R B
    ∙ ap (λ (l : List ℕ). faces_with (corner_use missing R B) (join_n (listed (point_count R.head)) 0 (runs l))) (is ∙ closes)
    ∙ faces_same missing R none low g coord B L is 0 0 uss
    (All_both (λ (us : List Use). All (λ (u : Use). Corner coord u.place u.point) us) (λ (us : List Use). Primitive (point_count R.head) g (points_used us)) uss named prims) closes
