-- The edges of triangles in a list of indices: under a naming, of parts joined, and turned; and the steps round a list under a naming.
use mathlib.Core.Path.{◌≡◌, refl, sym, ap}
use mathlib.Core.Bool.{Bool, true, false, cond}
use mathlib.Core.List.{List, [], ◌∷◌, ◌++◌, map}
use Prim.Native.Nat.{ℕ, ◌+◌}
use native.Mathlib.Nat.{zero-add}
use native.Mathlib.Omega.{arith}
use Rattle.polygon.specs.Ears.{Tri, triple}
use Rattle.polygon.specs.Edges.{back, named, tris, walk, around}
use Rattle.mesh.specs.Vertices.{wound}
use Rattle.closed.specs.Edges.{triangles_of}

-- ---- corners named by a map

module _ (h : ℕ → ℕ → ℕ) (f : ℕ → ℕ) where
  pub tris_named : (l : List ℕ) → tris (named f h) (triangles_of l) ≡ tris h (triangles_of (map f l))
  unfolding triangles_of tris
  tris_named [] = refl
  tris_named (a ∷ []) = refl
  tris_named (a ∷ b ∷ []) = refl
  tris_named (a ∷ b ∷ c ∷ r) = ap (λ (n : ℕ). h (f a) (f b) + (h (f b) (f c) + h (f c) (f a)) + n) (tris_named r)

  walk_named : (x : ℕ) (l : List ℕ) (y : ℕ) → walk (named f h) x l y ≡ walk h (f x) (map f l) (f y)
  unfolding walk
  walk_named x [] y = refl
  walk_named x (z ∷ r) y = ap (λ (n : ℕ). h (f x) (f z) + n) (walk_named z r y)

  pub around_named : (l : List ℕ) → around (named f h) l ≡ around h (map f l)
  unfolding around
  around_named [] = refl
  around_named (x ∷ l) = walk_named x l x

-- ---- parts joined

pub tris_append : (h : ℕ → ℕ → ℕ) (a b : List Tri) → tris h (a ++ b) ≡ tris h a + tris h b
unfolding tris
tris_append h [] b = sym (zero-add (tris h b))
tris_append h (t ∷ a) b = let e : tris h (a ++ b) ≡ tris h a + tris h b = tris_append h a b in omega arith

-- the part that is wound has its corners in threes
pub wound_append : (f : ℕ → ℕ) (ccw : Bool) (ts : List Tri) (m : List ℕ) → triangles_of (map f (wound ccw ts) ++ m) ≡ triangles_of (map f (wound ccw ts)) ++ triangles_of m
unfolding wound triangles_of
wound_append f ccw [] m = refl
wound_append f ccw (t ∷ ts) m =
    ap (λ (l : List Tri). triple (f t.a) (f (cond ccw t.b t.c)) (f (cond ccw t.c t.b)) ∷ l) (wound_append f ccw ts m)

-- ---- FORMAT 12.1: where ccw is off each triangle goes round the other way

pub wound_on : (h : ℕ → ℕ → ℕ) (ts : List Tri) → tris h (triangles_of (wound true ts)) ≡ tris h ts
unfolding wound triangles_of tris
wound_on h [] = refl
wound_on h (t ∷ ts) = ap (λ (n : ℕ). h t.a t.b + (h t.b t.c + h t.c t.a) + n) (wound_on h ts)

pub wound_off : (h : ℕ → ℕ → ℕ) (ts : List Tri) → tris h (triangles_of (wound false ts)) ≡ tris (back h) ts
unfolding wound triangles_of tris
wound_off h [] = refl
wound_off h (t ∷ ts) = let e : tris h (triangles_of (wound false ts)) ≡ tris (back h) ts = wound_off h ts in omega arith
