-- FORMAT 8: the corners of every kind name points below P, and gather under points below P; what an extrusion reads at a number.
use Prim.Native.Nat.{ℕ, suc, ◌+◌, ◌-◌, ◌*◌, ◌≤◌, ◌<◌}
use mathlib.Core.Path.{◌≡◌, refl, sym, subst}
use mathlib.Core.Bool.{Bool, true, false, ◌&&◌, cond, true≢false}
use Rattle.std.specs.Prelude.{None, Some}
use mathlib.Core.List.{List, [], ◌∷◌, ◌++◌, map, reverse}
use native.Mathlib.Nat.{mul_comm}
use native.Mathlib.Omega.{arith}
use borrow.Author.Tests.{ltb-true}
use lib.Dec.{ltb, leb}
use lib.ListN.{length}
use Rattle.bits.specs.Bits.{entries}
use Rattle.bits.specs.declared.Words4.{Words4}
use Rattle.block.specs.Header.{header_of}
use Rattle.block.specs.Extents.{list_bytes}
use Rattle.block.specs.Runs.{Run, runs, kept}
use Rattle.block.specs.Value.{words3}
use Rattle.lists.specs.Loops.{tab, All}
use Rattle.lists.proofs.Tabs.{tab_at}
use Rattle.lists.specs.Lists.{map_n, tabs, all_below}
use Rattle.mesh.specs.Words.{no2, no3, floats}
use Rattle.mesh.specs.Soup.{Corner, gathered, Face}
use Rattle.mesh.specs.Vertices.{Key}
use Rattle.mesh.specs.FaceSet.{Rest, point_count, colour_of, corner_by, corner_of, face_of, faces_of}
use Rattle.mesh.specs.Quads.{quad}
use Rattle.mesh.specs.Grid.{x_dimension, z_dimension, grid_corner, grid_face, grid_faces}
use Rattle.mesh.specs.Frames.{at}
use Rattle.mesh.specs.Extrusion.{Extrusion, extrusion_of, spine_count, point_number, corner_at, side_corner, cap_corner, sides, closes, ring_of, cap_length, cap_face, face_if, has_cap, caps, extrusion_faces}
use Rattle.mesh.specs.Lines.{these, somes, item_of, items_of, line_keys, corner_for, line_faces}
use Rattle.lists.proofs.Lists.{All_append, All_by, All_flat, All_map_n}
use Rattle.lists.proofs.Numbers.{cell}
use Rattle.lists.proofs.Totals.{tab_reverse}
use Rattle.mesh.proofs.Gathered.{gathered_le}

-- a face whose corners are within n points
abbrev pub Within : ℕ → Face → Type 0
Within n f = All (λ (c : Corner). (c.point < n) × (c.gather < n)) f

pub All_tabs : {A : Type 0} (Q : A → Type 0) (f : ℕ → ℕ → A) (n m : ℕ) → ((i j : ℕ) → i < n → j < m → Q (f i j)) → All Q (tabs f n m)
unfolding tabs
All_tabs Q f n m h = All_flat Q _ (All_by (λ (x : List _). All Q x) (λ i. tab (f i) m 0) n (λ i l. All_by Q (f i) m (λ j k. h i j l k)))

quad_all : (P : Corner → Type 0) (f : ℕ → ℕ → Corner) (a b : ℕ) → ((i j : ℕ) → i < a → j < b → P (f i j)) → (i j : ℕ) → i + 1 < a → j + 1 < b → All P (quad f i j)
unfolding quad
quad_all P f a b h i j p q =
    (h i j (omega arith) (omega arith), (h i (j + 1) (omega arith) q, (h (i + 1) (j + 1) p q, (h (i + 1) j p (omega arith), tt))))

-- ---- face set and line set

below_within : (missing : Words4) (R : Rest) (coord : List ℕ) (num k : ℕ) (es : List ℕ) → all_below (point_count R.head) es ≡ true
    → Within (point_count R.head) (map_n (corner_of missing R coord num) k es)
unfolding map_n corner_of corner_by all_below
below_within missing R coord num k [] h = tt
below_within missing R coord num k (e ∷ es) h = go (ltb e (point_count R.head)) refl h (below_within missing R coord num (suc k) es)
  where
    go : (b : Bool) → ltb e (point_count R.head) ≡ b → (b && all_below (point_count R.head) es) ≡ true
        → (all_below (point_count R.head) es ≡ true → Within (point_count R.head) (map_n (corner_of missing R coord num) (suc k) es))
        → Within (point_count R.head) (map_n (corner_of missing R coord num) k (e ∷ es))
    go true t q below = let l : e < point_count R.head = ltb-true _ _ t in ((l, l), below q)
    go false t q below = absurd (true≢false (sym q))

pub face_set_within : (missing : Words4) (R : Rest) (coord : List ℕ) → All (Within (point_count R.head)) (faces_of missing R coord)
unfolding faces_of face_of kept
face_set_within missing R coord = All_map_n (Within (point_count R.head)) (face_of missing R coord) one 0 (runs (entries coord))
  where
    one : (num : ℕ) (r : Run) → Within (point_count R.head) (face_of missing R coord num r)
    one num r = go (leb 3 (length r.items)) (all_below (point_count R.head) r.items) refl
      where
        go : (a b : Bool) → all_below (point_count R.head) r.items ≡ b → Within (point_count R.head) (cond (a && b) (map_n (corner_of missing R coord num) r.start r.items) [])
        go true true e = below_within missing R coord num r.start r.items e
        go true false e = tt
        go false b e = tt

keys_within : (missing : Words4) (R : Rest) (coord : List ℕ) (num k : ℕ) (es : List ℕ)
    → Within (point_count R.head) (map corner_for (somes (map_n (item_of missing R coord num) k es)))
unfolding somes map_n item_of
keys_within missing R coord num k [] = tt
keys_within missing R coord num k (e ∷ es) = go (ltb e (point_count R.head)) refl (keys_within missing R coord num (suc k) es)
  where
    q : Key
    q = record { point = e; normal = no3; colour = colour_of missing R coord num k; texture = no2 }

    go : (b : Bool) → ltb e (point_count R.head) ≡ b → Within (point_count R.head) (map corner_for (somes (map_n (item_of missing R coord num) (suc k) es)))
        → Within (point_count R.head) (map corner_for (these (cond b (Some q) None) ++ somes (map_n (item_of missing R coord num) (suc k) es)))
    go true t rest = let l : e < point_count R.head = ltb-true _ _ t in ((l, l), rest)
    go false t rest = rest

pub line_set_within : (missing : Words4) (R : Rest) (coord : List ℕ) → All (Within (point_count R.head)) (line_faces missing R coord)
unfolding line_faces line_keys items_of
line_set_within missing R coord =
    All_map_n (Within (point_count R.head)) (λ num r. map corner_for (line_keys missing R coord num r)) (λ num r. keys_within missing R coord num r.start r.items) 0 (runs (entries coord))

-- ---- grid

grid_corner_lem : (missing : Words4) (G : Rest) (num a b : ℕ) → a < x_dimension G.head → b < z_dimension G.head
    → ((grid_corner missing G num a b).point < x_dimension G.head * z_dimension G.head) × ((grid_corner missing G num a b).gather < x_dimension G.head * z_dimension G.head)
unfolding grid_corner corner_by
grid_corner_lem missing G num a b s t =
    let x : ℕ = x_dimension G.head in
    let z : ℕ = z_dimension G.head in
    let l : a + b * x < x * z = omega (arith, cell a b x z s t, mul_comm x z) in
    (l, l)

pub grid_within : (missing : Words4) (G : Rest) → All (Within (x_dimension G.head * z_dimension G.head)) (grid_faces missing G)
unfolding grid_faces grid_face
grid_within missing G =
    let x : ℕ = x_dimension G.head in
    let z : ℕ = z_dimension G.head in
    All_tabs (Within (x * z)) (grid_face missing G) (z - 1) (x - 1)
    (λ j i p q.
    quad_all (λ (c : Corner). (c.point < x * z) × (c.gather < x * z)) (grid_corner missing G (i + j * (x - 1))) x z (grid_corner_lem missing G (i + j * (x - 1))) i j (omega arith) (omega arith))

-- ---- extrusion

module _ (E : Extrusion) where
  cap_fits : cap_length E.section ≤ length E.section
  unfolding cap_length
  cap_fits = go (closes E.section)
    where
      go : (b : Bool) → cond b (length E.section - 1) (length E.section) ≤ length E.section
      go true = omega arith
      go false = omega arith

  -- what holds of the corners of sides and caps holds of all
  module _ (P : Corner → Type 0) (side : (i j : ℕ) → i < length E.spine → j < length E.section → P (side_corner E i j))
      (cap : (i j : ℕ) → i < length E.spine → j < length E.section → P (cap_corner E i j)) where
    cap_all : (i : ℕ) → i < length E.spine → All P (cap_face E i)
    unfolding cap_face
    cap_all i p = All_by P (cap_corner E i) (cap_length E.section) (λ j q. cap i j p (omega (arith, cap_fits)))

    turned_all : (i : ℕ) → i < length E.spine → All P (reverse (cap_face E i))
    unfolding cap_face
    turned_all i p =
        subst (λ (f : Face). All P f) (sym (tab_reverse (cap_corner E i) (cap_length E.section)))
        (All_by P (λ j. cap_corner E i (cap_length E.section - 1 - j)) (cap_length E.section)
        (λ j q. cap i (cap_length E.section - 1 - j) p (omega (arith, cap_fits))))

    if_all : (b : Bool) (f : Face) → All P f → All (λ (f : Face). All P f) (face_if b f)
    if_all true f h = (h, tt)
    if_all false f h = tt

    pub extrusion_all : 1 ≤ length E.spine → All (λ (f : Face). All P f) (extrusion_faces E)
    unfolding extrusion_faces sides caps
    extrusion_all h =
        let n : ℕ = length E.spine in
        let m : ℕ = length E.section in
        let k : ℕ = cap_length E.section in
        All_append (λ (f : Face). All P f) (sides E) (caps E)
        (All_tabs (λ (f : Face). All P f) (quad (side_corner E)) (n - 1) (m - 1) (λ i j p q. quad_all P (side_corner E) n m side i j (omega arith) (omega arith)))
        (All_append (λ (f : Face). All P f) (face_if (has_cap E.head.begin_cap k) (reverse (cap_face E 0))) (face_if (has_cap E.head.end_cap k) (cap_face E (n - 1)))
        (if_all (has_cap E.head.begin_cap k) (reverse (cap_face E 0)) (turned_all 0 (omega arith)))
        (if_all (has_cap E.head.end_cap k) (cap_face E (n - 1)) (cap_all (n - 1) (omega arith))))

  point_below : (i j : ℕ) → i < length E.spine → j < length E.section → point_number (length E.section) i j < length E.spine * length E.section
  point_below i j p q = omega (arith, cell j i (length E.section) (length E.spine) q p)

  -- a corner is gathered by its point, or by one before it
  gather_below : (i j : ℕ) → i < length E.spine → j < length E.section
      → gathered (ring_of E.section) (point_number (length E.section) i j) < length E.spine * length E.section
  gather_below i j p q = omega (arith, point_below i j p q, gathered_le (ring_of E.section) (point_number (length E.section) i j))

  pub extrusion_within : 1 ≤ length E.spine → All (Within (length E.spine * length E.section)) (extrusion_faces E)
  unfolding side_corner cap_corner corner_at
  extrusion_within h =
      let n : ℕ = length E.spine * length E.section in
      extrusion_all (λ (c : Corner). (c.point < n) × (c.gather < n)) (λ i j p q. (point_below i j p q, gather_below i j p q)) (λ i j p q. (point_below i j p q, gather_below i j p q)) h

-- ---- what an extrusion reads

module _ (bs : List ℕ) where
  pub spine_at : (i : ℕ) → i < spine_count (header_of bs) → at (extrusion_of bs).spine i ≡ floats (words3 (list_bytes bs (header_of bs) 0) i)
  unfolding at extrusion_of
  spine_at i h = tab_at (λ k. floats (words3 (list_bytes bs (header_of bs) 0) k)) (spine_count (header_of bs)) i _ h
