-- Searches: whether a corner lies in the triangle, and what a search gives.
use Prim.Native.Nat.{ℕ, ◌+◌, ◌<◌}
use native.Mathlib.Omega.{arith}
use mathlib.Core.Path.{◌≡◌, sym, ap, ◌∙◌}
use mathlib.Core.Bool.{Bool, false, ◌&&◌}
use mathlib.Core.List.{List}
use lib.ListN.{get_or}
use Rattle.lists.proofs.Searches.{first_later}
use lib.Dec.{eqb}
use lib.Ieee.{Float, nan, le}
use Rattle.lists.proofs.Tests.{and_past}
use Rattle.polygon.specs.Ears.{Pt, +0, cross2, point_in_tri}
use Rattle.lists.specs.Loops.{first}
use Rattle.polygon.specs.Memo.{spot_of, inside, hits}
use Rattle.polygon.specs.declared.memo.Dot.{Dot}

-- ---- whether a corner lies in the triangle

pub not_left : (left : List ℕ) (g : ℕ → Bool) (j v : ℕ) → v ≡ get_or left j 0 → eqb v 1 ≡ false → hits left g j ≡ false
unfolding hits
not_left left g j v ev e = ap (λ (b : Bool). b && g j) (sym (ap (λ (n : ℕ). eqb n 1) ev) ∙ e)

-- the flag, the point and the sides as they were read
module _ (P : ℕ → Pt) (left : List ℕ) (a b c : Dot) (j v : ℕ) (q : Pt) (u w : Float) (ev : v ≡ get_or left j 0) (eq : q ≡ P j)
    (eu : u ≡ cross2 (spot_of b) (spot_of c) q) (ew : w ≡ cross2 (spot_of c) (spot_of a) q) where
  bc : u ≡ cross2 (spot_of b) (spot_of c) (P j)
  bc = eu ∙ ap (cross2 (spot_of b) (spot_of c)) eq

  ca : w ≡ cross2 (spot_of c) (spot_of a) (P j)
  ca = ew ∙ ap (cross2 (spot_of c) (spot_of a)) eq

  pub not_near : (eqb v 1 && (le +0 u && le +0 w)) ≡ false → hits left (inside P a b c) j ≡ false
  unfolding hits point_in_tri
  not_near e = and_past (eqb (get_or left j 0) 1) (le +0 (cross2 (spot_of a) (spot_of b) (P j))) _ (sym (λ i. eqb (ev i) 1 && (le +0 (bc i) && le +0 (ca i))) ∙ e)

  pub lanes_hit : (z : Float) → z ≡ cross2 (spot_of a) (spot_of b) q → (eqb v 1 && (le +0 z && (le +0 u && le +0 w))) ≡ hits left (inside P a b c) j
  unfolding hits point_in_tri
  lanes_hit z ez = let ab = ez ∙ ap (cross2 (spot_of a) (spot_of b)) eq in λ i. eqb (ev i) 1 && (le +0 (ab i) && (le +0 (bc i) && le +0 (ca i)))

-- sixteen of them from a later one on, as they were read
pub block_read : (P : ℕ → Pt) (left fs : List ℕ) (a b c : Dot) (from r : ℕ) (x y ab bc ca : List Float) → ((k : ℕ) → k < 16 → get_or fs k 0 ≡ get_or left (from + k) 0)
    → ((k : ℕ) → k < 16 → (get_or x k nan, get_or y k nan) ≡ P (from + k))
    → ((k : ℕ) → k < 16 → get_or ab k nan ≡ cross2 (spot_of a) (spot_of b) (get_or x k nan, get_or y k nan))
    → ((k : ℕ) → k < 16 → get_or bc k nan ≡ cross2 (spot_of b) (spot_of c) (get_or x k nan, get_or y k nan))
    → ((k : ℕ) → k < 16 → get_or ca k nan ≡ cross2 (spot_of c) (spot_of a) (get_or x k nan, get_or y k nan))
    → r ≡ first (λ k. eqb (get_or fs k 0) 1 && (le +0 (get_or ab k nan) && (le +0 (get_or bc k nan) && le +0 (get_or ca k nan)))) 16 0
    → from + r ≡ first (hits left (inside P a b c)) 16 from
block_read P left fs a b c from r x y ab bc ca ef ep eab ebc eca e =
    ap (λ n. from + n) e
    ∙ first_later (hits left (inside P a b c)) _ from 16 0 from (omega arith)
    (λ k _ l. lanes_hit P left a b c (from + k) (get_or fs k 0) _ _ _ (ef k l) (ep k l) (ebc k l) (eca k l) _ (eab k l))
