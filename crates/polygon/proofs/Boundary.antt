-- The triangles of a face fill its outline: of the directed edges of all triangles, those that do not cancel are the outline's, whatever the points are.
use mathlib.Core.Path.{◌≡◌, refl, sym, ap, ◌∙◌, subst}
use mathlib.Core.Bool.{Bool, true, false}
use mathlib.Core.List.{List, [], ◌∷◌, ◌++◌, map}
use Prim.Native.Nat.{ℕ, zero, suc, ◌+◌, ◌-◌, ◌*◌, ◌%◌, ◌<◌}
use native.Mathlib.Nat.{mod-eq_of_lt, add-zero}
use native.Mathlib.Omega.{arith}
use lib.Dec.{eqb}
use lib.ListN.{length, get_or}
use lib.Ieee.{nan}
use Rattle.lists.specs.Loops.{pick, tab}
use Rattle.lists.proofs.Numbers.{before_suc}
use Rattle.lists.proofs.Lists.{next_around}
use Rattle.lists.proofs.Tests.{and_comm}
use Rattle.lists.specs.Lists.{remove}
use Rattle.polygon.specs.Ears.{Pt, Tri, fan_from, fan, goes, first_ear, before, here, after, corner, clip, place, order, is_reversed, turn, ear_clip_by, ear_clip, outline}
use Rattle.polygon.specs.Edges.{back, edge, named, tris, walk, around}
use Rattle.polygon.specs.Face.{face_tris}
use Rattle.polygon.proofs.Count.{goes_long, goes_ear, either}
use Rattle.lists.proofs.Loops.{back_zero}

-- ---- a fan fills the list that it is over

abbrev Fills : (ℕ → ℕ → ℕ) → List Tri → List ℕ → Type 0
Fills h ts l = tris h ts + around (back h) l ≡ tris (back h) ts + around h l

module _ (h : ℕ → ℕ → ℕ) where
  fan_from_fills : (x y : ℕ) (r : List ℕ) → tris h (fan_from x (y ∷ r)) + (h y x + walk (back h) y r x) ≡ tris (back h) (fan_from x (y ∷ r)) + (h x y + walk h y r x)
  unfolding fan_from tris walk
  fan_from_fills x y [] = omega arith
  fan_from_fills x y (z ∷ r) =
      let ih : tris h (fan_from x (z ∷ r)) + (h z x + walk (back h) z r x) ≡ tris (back h) (fan_from x (z ∷ r)) + (h x z + walk h z r x) = fan_from_fills x z r in
      omega arith

  fan_fills : (l : List ℕ) → Fills h (fan l) l
  unfolding fan fan_from tris around walk
  fan_fills [] = refl
  fan_fills (x ∷ []) = refl
  fan_fills (x ∷ y ∷ r) = fan_from_fills x y r

  -- ---- a corner is taken out

  walk_remove : (x y : ℕ) (l : List ℕ) (j : ℕ) → j < length l
      → walk h x (remove j l) y + (h (get_or (x ∷ l) j 0) (get_or l j 0) + h (get_or l j 0) (get_or (l ++ (y ∷ [])) (suc j) 0))
      ≡ walk h x l y + h (get_or (x ∷ l) j 0) (get_or (l ++ (y ∷ [])) (suc j) 0)
  unfolding walk remove
  walk_remove x y [] j b = let z : ⊥ = omega arith in absurd z
  walk_remove x y (e ∷ []) zero b = omega arith
  walk_remove x y (e ∷ z ∷ s) zero b = omega arith
  walk_remove x y (z ∷ r) (suc j) b =
      let ih : walk h z (remove j r) y + (h (get_or (z ∷ r) j 0) (get_or r j 0) + h (get_or r j 0) (get_or (r ++ (y ∷ [])) (suc j) 0))
      ≡ walk h z r y + h (get_or (z ∷ r) j 0) (get_or (r ++ (y ∷ [])) (suc j) 0) = walk_remove z y r j (omega arith) in
      omega arith

  walk_end : (a b c : ℕ) (s : List ℕ) → walk h a s b + h (get_or (a ∷ s) (length s) 0) c ≡ walk h a s c + h (get_or (a ∷ s) (length s) 0) b
  unfolding walk
  walk_end a b c [] = omega arith
  walk_end a b c (z ∷ s) =
      let ih : walk h z s b + h (get_or (z ∷ s) (length s) 0) c ≡ walk h z s c + h (get_or (z ∷ s) (length s) 0) b = walk_end z b c s in
      omega arith

module _ (h : ℕ → ℕ → ℕ) where
  abbrev Out : List ℕ → ℕ → ℕ → ℕ → ℕ → Type 0
  Out l i a b c = around h (remove i l) + (h a b + h b c) ≡ around h l + h a c

  pub outline_remove : (l : List ℕ) (i : ℕ) → i < length l → 1 < length l → Out l i (before l i) (here l i) (after l i)
  unfolding around remove walk
  outline_remove [] i b m = let z : ⊥ = omega arith in absurd z
  outline_remove (x ∷ []) i b m = let z : ⊥ = omega arith in absurd z
  outline_remove (x ∷ y ∷ s) zero b m =
      let p : (0 + suc (suc (length s)) - 1) % suc (suc (length s)) ≡ suc (length s) = sym (back_zero (suc (suc (length s))) 0 (omega arith) refl) ∙ omega arith in
      let q : (0 + 1) % suc (suc (length s)) ≡ 1 = mod-eq_of_lt (omega arith) in
      let w : walk h y s y + h (get_or (y ∷ s) (length s) 0) x ≡ walk h y s x + h (get_or (y ∷ s) (length s) 0) y = walk_end h y y x s in
      let o : Out (x ∷ y ∷ s) 0 (get_or (y ∷ s) (length s) 0) x y = omega arith in
      subst (λ (k : ℕ). Out (x ∷ y ∷ s) 0 (get_or (x ∷ y ∷ s) k 0) x (after (x ∷ y ∷ s) 0)) (sym p)
      (subst (λ (k : ℕ). Out (x ∷ y ∷ s) 0 (get_or (y ∷ s) (length s) 0) x (get_or (x ∷ y ∷ s) k 0)) (sym q) o)
  outline_remove (x ∷ y ∷ s) (suc j) b m =
      let r : List ℕ = y ∷ s in
      let p : (suc j + suc (length r) - 1) % suc (length r) ≡ j = before_suc (suc (length r)) j b in
      let q : after (x ∷ r) (suc j) ≡ get_or (r ++ (x ∷ [])) (suc j) 0 = next_around x r j (omega arith) in
      subst (λ (k : ℕ). Out (x ∷ r) (suc j) (get_or (x ∷ r) k 0) (here (x ∷ r) (suc j)) (after (x ∷ r) (suc j))) (sym p)
      (subst (λ (c : ℕ). Out (x ∷ r) (suc j) (get_or (x ∷ r) j 0) (here (x ∷ r) (suc j)) c) (sym q) (walk_remove h x x r j (omega arith)))

-- ---- the clip fills the order that it starts with

module _ (P : ℕ → Pt) (h : ℕ → ℕ → ℕ) where
  clip_fills : (k : ℕ) (l : List ℕ) → Fills h (clip P k l) l
  unfolding clip tris
  clip_fills zero l = fan_fills h l
  clip_fills (suc k) l = go (goes P l) refl (clip_fills k (remove (first_ear P l) l))
    where
      go : (b : Bool) → goes P l ≡ b → Fills h (clip P k (remove (first_ear P l) l)) (remove (first_ear P l) l)
          → Fills h (pick b (corner l (first_ear P l) ∷ clip P k (remove (first_ear P l) l)) (fan l)) l
      go true e ih =
          let m : 3 < length l = goes_long P l e in
          let i : first_ear P l < length l = goes_ear P l e in
          let f = outline_remove h l (first_ear P l) i (omega arith) in
          let g = outline_remove (back h) l (first_ear P l) i (omega arith) in
          omega arith
      go false e ih = fan_fills h l

-- ---- the order, backwards

module _ (h : ℕ → ℕ → ℕ) where
  -- a to a + 1 to .. to a + k
  seg : ℕ → ℕ → ℕ
  seg zero a = 0
  seg (suc k) a = h a (suc a) + seg k (suc a)

  seg_snoc : (k a : ℕ) → seg (suc k) a ≡ seg k a + h (a + k) (suc (a + k))
  unfolding seg
  seg_snoc zero a = let e : a + 0 ≡ a = add-zero a in rw e (omega arith)
  seg_snoc (suc k) a =
      let ih : seg (suc k) (suc a) ≡ seg k (suc a) + h (suc a + k) (suc (suc a + k)) = seg_snoc k (suc a) in
      let e : a + suc k ≡ suc a + k = omega arith in
      let g : h (a + suc k) (suc (a + suc k)) ≡ h (suc a + k) (suc (suc a + k)) = ap (λ (j : ℕ). h j (suc j)) e in
      omega arith

  walk_up : (k a y : ℕ) → walk h a (tab (λ i. i) k (suc a)) y ≡ seg k a + h (a + k) y
  unfolding walk tab seg
  walk_up zero a y = let e : a + 0 ≡ a = add-zero a in rw e (omega arith)
  walk_up (suc k) a y =
      let ih : walk h (suc a) (tab (λ i. i) k (suc (suc a))) y ≡ seg k (suc a) + h (suc a + k) y = walk_up k (suc a) y in
      let e : a + suc k ≡ suc a + k = omega arith in
      let g : h (a + suc k) y ≡ h (suc a + k) y = ap (λ (j : ℕ). h j y) e in
      omega arith

-- from place i of the order backwards of n, whose corner is b = k + a, k places on to a
walk_down : (h : ℕ → ℕ → ℕ) (n k a i y : ℕ) → n ≡ suc (i + (a + k)) → walk h (a + k) (tab (place true n) k (suc i)) y ≡ seg (back h) k a + h a y
unfolding walk tab seg place
walk_down h n zero a i y e = let z : a + 0 ≡ a = add-zero a in rw z (omega arith)
walk_down h n (suc k) a i y e =
    let p : n - 1 - suc i ≡ a + k = omega arith in
    let w : a + suc k ≡ suc (a + k) = omega arith in
    let ih : walk h (a + k) (tab (place true n) k (suc (suc i))) y ≡ seg (back h) k a + h a y = walk_down h n k a (suc i) y (omega arith) in
    let s : seg (back h) (suc k) a ≡ seg (back h) k a + h (suc (a + k)) (a + k) = seg_snoc (back h) k a in
    let f : h (a + suc k) (n - 1 - suc i) + walk h (n - 1 - suc i) (tab (place true n) k (suc (suc i))) y
    ≡ h (suc (a + k)) (a + k) + walk h (a + k) (tab (place true n) k (suc (suc i))) y =
    λ j. h (w j) (p j) + walk h (p j) (tab (place true n) k (suc (suc i))) y in
    omega arith

forward : (n : ℕ) → order false n ≡ outline n
unfolding order outline place
forward n = refl

first_place : (m : ℕ) → place true (suc m) 0 ≡ 0 + m
unfolding place
first_place m = omega arith

backward : (h : ℕ → ℕ → ℕ) (n : ℕ) → around h (order true n) ≡ around (back h) (outline n)
unfolding order outline around tab
backward h zero = refl
backward h (suc m) =
    let p : place true (suc m) 0 ≡ 0 + m = first_place m in
    let d : walk h (0 + m) (tab (place true (suc m)) m 1) (0 + m) ≡ seg (back h) m 0 + h 0 (0 + m) = walk_down h (suc m) m 0 0 (0 + m) (omega arith) in
    let u : walk (back h) 0 (tab (λ i. i) m 1) 0 ≡ seg (back h) m 0 + h 0 (0 + m) = walk_up (back h) m 0 0 in
    ap (λ (x : ℕ). walk h x (tab (place true (suc m)) m 1) x) p ∙ d ∙ sym u

-- ---- the law

module _ (h : ℕ → ℕ → ℕ) where
  tris_turned : (ts : List Tri) → tris h (map (turn true) ts) ≡ tris (back h) ts
  unfolding tris turn
  tris_turned [] = refl
  tris_turned (t ∷ ts) = let ih : tris h (map (turn true) ts) ≡ tris (back h) ts = tris_turned ts in omega arith

  tris_same : (ts : List Tri) → tris h (map (turn false) ts) ≡ tris h ts
  unfolding tris turn
  tris_same [] = refl
  tris_same (t ∷ ts) = ap (λ (k : ℕ). h t.a t.b + (h t.b t.c + h t.c t.a) + k) (tris_same ts)

turned_fills : (h : ℕ → ℕ → ℕ) (rev : Bool) (n : ℕ) (ts : List Tri) → Fills h ts (order rev n) → Fills (back h) ts (order rev n)
    → Fills h (map (turn rev) ts) (outline n)
turned_fills h false n ts f g =
    let a : tris h (map (turn false) ts) ≡ tris h ts = tris_same h ts in
    let b : tris (back h) (map (turn false) ts) ≡ tris (back h) ts = tris_same (back h) ts in
    let o : around h (order false n) ≡ around h (outline n) = ap (around h) (forward n) in
    let q : around (back h) (order false n) ≡ around (back h) (outline n) = ap (around (back h)) (forward n) in
    omega arith
turned_fills h true n ts f g =
    let a : tris h (map (turn true) ts) ≡ tris (back h) ts = tris_turned h ts in
    let b : tris (back h) (map (turn true) ts) ≡ tris h ts = tris_turned (back h) ts in
    let o : around h (order true n) ≡ around (back h) (outline n) = backward h n in
    let q : around (back h) (order true n) ≡ around h (outline n) = backward (back h) n in
    omega arith

ear_clip_by_fills : (P : ℕ → Pt) (h : ℕ → ℕ → ℕ) (n : ℕ) → Fills h (ear_clip_by P n) (outline n)
unfolding ear_clip_by
ear_clip_by_fills P h n =
    turned_fills h (is_reversed P n) n (clip P (n * n) (order (is_reversed P n) n))
    (clip_fills P h (n * n) (order (is_reversed P n) n)) (clip_fills P (back h) (n * n) (order (is_reversed P n) n))

edge_back : (u v : ℕ) → back (edge u v) ≡ edge v u
edge_back u v = λ i a b. pick (and_comm (eqb b u) (eqb a v) i) 1 0

ears_fill : (pts : List Pt) (h : ℕ → ℕ → ℕ) → Fills h (ear_clip pts) (outline (length pts))
unfolding ear_clip
ears_fill pts h = ear_clip_by_fills (λ j. get_or pts j (nan, nan)) h (length pts)

-- for any weight of an edge: the triangles and the outline backwards weigh as much as the triangles backwards and the outline 0, 1, .., n - 1, 0
pub face_fills : (convex : Bool) (pts : List Pt) (h : ℕ → ℕ → ℕ)
    → tris h (face_tris convex pts) + around (back h) (outline (length pts)) ≡ tris (back h) (face_tris convex pts) + around h (outline (length pts))
face_fills convex pts h =
    either (λ (ts : List Tri). Fills h ts (outline (length pts))) convex pts (fan_fills h (outline (length pts))) (ears_fill pts h)

-- the edges from u to v less those from v to u, where corner j is named f j, are as many as on the outline
pub face_boundary : (convex : Bool) (pts : List Pt) (f : ℕ → ℕ) (u v : ℕ)
    → tris (named f (edge u v)) (face_tris convex pts) + around (named f (edge v u)) (outline (length pts))
    ≡ tris (named f (edge v u)) (face_tris convex pts) + around (named f (edge u v)) (outline (length pts))
face_boundary convex pts f u v =
    subst
    (λ (g : ℕ → ℕ → ℕ). tris (named f (edge u v)) (face_tris convex pts) + around (named f g) (outline (length pts))
    ≡ tris (named f g) (face_tris convex pts) + around (named f (edge u v)) (outline (length pts)))
    (edge_back u v) (face_fills convex pts (named f (edge u v)))
