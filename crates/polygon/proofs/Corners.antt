-- Every corner of every triangle is a corner of the face: a number below n.
use mathlib.Core.Path.{◌≡◌, refl}
use mathlib.Core.Bool.{Bool, true, false}
use mathlib.Core.List.{List, [], ◌∷◌, map}
use Prim.Native.Nat.{ℕ, zero, suc, ◌*◌, ◌<◌}
use native.Mathlib.Nat.{mod-lt}
use native.Mathlib.Omega.{arith}
use lib.ListN.{length, get_or}
use lib.Ieee.{nan}
use Rattle.lists.specs.Loops.{pick, All}
use Rattle.lists.proofs.Lists.{All_get_or, All_by}
use Rattle.lists.specs.Lists.{remove}
use Rattle.lists.proofs.Removal.{all_remove}
use Rattle.polygon.specs.Ears.{Pt, Tri, fan_from, fan, goes, first_ear, corner, clip, place, order, is_reversed, turn, ear_clip_by, ear_clip, outline, flat}
use Rattle.polygon.specs.Edges.{Within}
use Rattle.polygon.specs.Face.{face_tris}
use Rattle.polygon.proofs.Keep.{place_in}
use Rattle.polygon.proofs.Count.{goes_ear, either}

abbrev Each : (ℕ → Type 0) → List Tri → Type 0
Each Q ts = All (λ (t : Tri). Q t.a × Q t.b × Q t.c) ts

module _ (Q : ℕ → Type 0) where
  each_fan_from : (x : ℕ) (l : List ℕ) → Q x → All Q l → Each Q (fan_from x l)
  unfolding fan_from
  each_fan_from x [] q a = tt
  each_fan_from x (y ∷ []) q a = tt
  each_fan_from x (y ∷ z ∷ r) q a = ((q, a.0, a.1.0), each_fan_from x (z ∷ r) q a.1)

  each_fan : (l : List ℕ) → All Q l → Each Q (fan l)
  unfolding fan
  each_fan [] a = tt
  each_fan (x ∷ l) a = each_fan_from x l a.0 a.1

  each_clip : (P : ℕ → Pt) (k : ℕ) (l : List ℕ) → All Q l → Each Q (clip P k l)
  unfolding clip
  each_clip P zero l a = each_fan l a
  each_clip P (suc k) l a = go (goes P l) refl (each_clip P k (remove (first_ear P l) l) (all_remove Q (first_ear P l) l a))
    where
      go : (b : Bool) → goes P l ≡ b → Each Q (clip P k (remove (first_ear P l) l))
          → Each Q (pick b (corner l (first_ear P l) ∷ clip P k (remove (first_ear P l) l)) (fan l))
      go true e ih =
          let i : first_ear P l < length l = goes_ear P l e in
          ((All_get_or Q l a 0 _ (mod-lt _ (omega arith)), All_get_or Q l a 0 (first_ear P l) i, All_get_or Q l a 0 _ (mod-lt _ (omega arith))), ih)
      go false e ih = each_fan l a

  each_turn : (rev : Bool) (ts : List Tri) → Each Q ts → Each Q (map (turn rev) ts)
  unfolding turn
  each_turn rev [] a = tt
  each_turn true (t ∷ ts) a = ((a.0.0, a.0.2, a.0.1), each_turn true ts a.1)
  each_turn false (t ∷ ts) a = (a.0, each_turn false ts a.1)

  all_flat : (ts : List Tri) → Each Q ts → All Q (flat ts)
  unfolding flat
  all_flat [] a = tt
  all_flat (t ∷ ts) a = (a.0.0, (a.0.1, (a.0.2, all_flat ts a.1)))

all_order : (rev : Bool) (n : ℕ) → All (λ j. j < n) (order rev n)
unfolding order
all_order rev n = All_by (λ j. j < n) (place rev n) n (place_in rev n)

ears_within : (pts : List Pt) → All (Within (length pts)) (ear_clip pts)
unfolding ear_clip ear_clip_by
ears_within pts =
    let n = length pts in
    let P : ℕ → Pt = λ j. get_or pts j (nan, nan) in
    let rev : Bool = is_reversed P n in
    each_turn (λ j. j < n) rev (clip P (n * n) (order rev n)) (each_clip (λ j. j < n) P (n * n) (order rev n) (all_order rev n))

all_outline : (n : ℕ) → All (λ j. j < n) (outline n)
unfolding outline
all_outline n = All_by (λ j. j < n) (λ i. i) n (λ j b. b)

pub face_within : (convex : Bool) (pts : List Pt) → All (Within (length pts)) (face_tris convex pts)
face_within convex pts =
    either (All (Within (length pts))) convex pts (each_fan (λ j. j < length pts) (outline (length pts)) (all_outline (length pts))) (ears_within pts)

-- the same of the numbers that are written
pub below : (n : ℕ) (ts : List Tri) (k : ℕ) → All (Within n) ts → k < length (flat ts) → get_or (flat ts) k 0 < n
below n ts k w h = All_get_or (λ j. j < n) (flat ts) (all_flat (λ j. j < n) ts w) 0 k h
