-- FORMAT 12.3: ear clipping, which triangles and in which order. A corner is a number below the number of points. `P` is where each corner lies.
use Rattle.std.specs.Prelude.{ℕ, zero, suc, ◌+◌, ◌-◌, ◌*◌, ◌%◌, Bool, not, ◌&&◌, List, [], ◌∷◌, map, length, get_or, ltb, eqb, Float}
use Rattle.std.specs.Float.{nan, binary32}
use Rattle.std.specs.Float.Ieee.{add, sub, mul, lt, le, of_bits}
use Rattle.lists.specs.Lists.{remove}
use Rattle.lists.specs.Loops.{pick, any, tab, run, first}

-- a point in the plane
abbrev pub Pt : Type 0
Pt = Float × Float

-- three corners of one face
pub record Tri : Type 0 where
  pub a : ℕ
  pub b : ℕ
  pub c : ℕ

abbrev pub triple : ℕ → ℕ → ℕ → Tri
triple a b c = record { a = a; b = b; c = c }

-- 0.0
abbrev pub +0 : Float
+0 = of_bits binary32 0

-- FORMAT 12.3, cross2: twice the signed area of o a b
unfoldable pub cross2 : Pt → Pt → Pt → Float
cross2 o a b =
    sub binary32
    (mul binary32 (sub binary32 a.0 o.0) (sub binary32 b.1 o.1))
    (mul binary32 (sub binary32 a.1 o.1) (sub binary32 b.0 o.0))

-- FORMAT 12.3, point_in_tri: not to the right of any side; a NaN is never in
unfoldable pub point_in_tri : Pt → Pt → Pt → Pt → Bool
point_in_tri p a b c = le +0 (cross2 a b p) && (le +0 (cross2 b c p) && le +0 (cross2 c a p))

-- FORMAT 12.3, ear_clip (blocked): the corner j, which is none of a b c, lies in the triangle a b c
unfoldable pub blocks : (ℕ → Pt) → ℕ → ℕ → ℕ → ℕ → Bool
blocks P a b c j = not (eqb j a) && (not (eqb j b) && (not (eqb j c) && point_in_tri (P j) (P a) (P b) (P c)))

-- FORMAT 12.3, ear_clip (ia, ib, ic): the corners before, at and after the place i of the working order
abbrev pub before : List ℕ → ℕ → ℕ
before idx i = get_or idx ((i + length idx - 1) % length idx) 0

abbrev pub here : List ℕ → ℕ → ℕ
here idx i = get_or idx i 0

abbrev pub after : List ℕ → ℕ → ℕ
after idx i = get_or idx ((i + 1) % length idx) 0

abbrev pub corner : List ℕ → ℕ → Tri
corner idx i = triple (before idx i) (here idx i) (after idx i)

-- FORMAT 12.3, ear_clip: neither reflex nor degenerate (a NaN is neither), and no other corner of the order lies in it
unfoldable pub is_ear : (ℕ → Pt) → List ℕ → ℕ → Bool
is_ear P idx i =
    not (le (cross2 (P (before idx i)) (P (here idx i)) (P (after idx i))) +0)
    && not (any (blocks P (before idx i) (here idx i) (after idx i)) idx)

-- FORMAT 12.3, ear_clip: the place of the first ear; the length where there is none
unfoldable pub first_ear : (ℕ → Pt) → List ℕ → ℕ
first_ear P idx = first (is_ear P idx) (length idx) 0

-- FORMAT 12.1: x with each two neighbours of a list
unfoldable pub fan_from : ℕ → List ℕ → List Tri
fan_from x [] = []
fan_from x (y ∷ []) = []
fan_from x (y ∷ z ∷ r) = triple x y z ∷ fan_from x (z ∷ r)

-- FORMAT 12.1, triangulate and ear_clip: the fan of an order
unfoldable pub fan : List ℕ → List Tri
fan [] = []
fan (x ∷ xs) = fan_from x xs

-- FORMAT 12.3, ear_clip: more than three corners are left, and there is an ear
unfoldable pub goes : (ℕ → Pt) → List ℕ → Bool
goes P idx = ltb 3 (length idx) && ltb (first_ear P idx) (length idx)

-- FORMAT 12.3, ear_clip: the first ear is clipped, at most k times; then a fan of what remains
unfoldable pub clip : (ℕ → Pt) → ℕ → List ℕ → List Tri
clip P zero idx = fan idx
clip P (suc k) idx =
    let more = corner idx (first_ear P idx) ∷ clip P k (remove (first_ear P idx) idx) in
    pick (goes P idx) more (fan idx)

-- FORMAT 12.3, ear_clip (area): one more term of twice the area to the left of the outline of n corners
unfoldable pub area_term : (ℕ → Pt) → ℕ → ℕ → Float → Float
area_term P n i s =
    add binary32 s (sub binary32 (mul binary32 (P i).0 (P ((i + 1) % n)).1) (mul binary32 (P ((i + 1) % n)).0 (P i).1))

-- FORMAT 12.3, ear_clip (area)
unfoldable pub area : (ℕ → Pt) → ℕ → Float
area P n = run (area_term P n) n 0 +0

-- FORMAT 12.3, ear_clip (reversed)
unfoldable pub is_reversed : (ℕ → Pt) → ℕ → Bool
is_reversed P n = lt (area P n) +0

-- FORMAT 12.3, ear_clip (idx): the working order, 0, 1, .., or n - 1, n - 2, ..
unfoldable pub place : Bool → ℕ → ℕ → ℕ
place rev n i = pick rev (n - 1 - i) i

unfoldable pub order : Bool → ℕ → List ℕ
order rev n = tab (place rev n) n 0

-- FORMAT 12.3, ear_clip: the caller's winding again
unfoldable pub turn : Bool → Tri → Tri
turn rev t = triple t.a (pick rev t.c t.b) (pick rev t.b t.c)

-- FORMAT 12.3, ear_clip, of n corners that lie at P, in at most n * n turns (guard)
unfoldable pub ear_clip_by : (ℕ → Pt) → ℕ → List Tri
ear_clip_by P n = map (turn (is_reversed P n)) (clip P (n * n) (order (is_reversed P n) n))

-- FORMAT 12.3, ear_clip
unfoldable pub ear_clip : List Pt → List Tri
ear_clip pts = ear_clip_by (λ j. get_or pts j (nan, nan)) (length pts)

-- FORMAT 12.1: the corners of a face of n, 0, 1, .., n - 1
unfoldable pub outline : ℕ → List ℕ
outline n = tab (λ i. i) n 0

-- FORMAT 12.1: the corners of triangles as they are written, three to each
unfoldable pub flat : List Tri → List ℕ
flat [] = []
flat (t ∷ ts) = t.a ∷ t.b ∷ t.c ∷ flat ts
