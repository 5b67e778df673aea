-- From what the code leaves in a slice to the definition on a list of points.
use mathlib.Core.Path.{◌≡◌, refl, ap, ◌∙◌, fun_ext}
use mathlib.Core.Bool.{Bool, false}
use mathlib.Core.List.{List, [], ◌∷◌, map}
use Prim.Native.Nat.{ℕ, zero, suc, ◌+◌, ◌-◌, ◌*◌}
use native.Mathlib.Omega.{arith}
use lib.ListN.{length, get_or}
use lib.Seq.{sets}
use lib.Ieee.{Float, nan}
use Rattle.polygon.specs.Ears.{Pt, Tri, flat, turn, clip, order, is_reversed, ear_clip, ear_clip_by}
use Rattle.polygon.specs.Memo.{xy}
use Rattle.polygon.specs.Plane.{pairs}

-- ---- the points of a list of coordinates

pub pairs_at : (l : List Float) (n j : ℕ) → length l ≡ n * 2 → get_or (pairs l) j (nan, nan) ≡ xy l j
unfolding pairs
pairs_at [] n j e = refl
pairs_at (x ∷ []) n j e = let z : ⊥ = omega arith in absurd z
pairs_at (x ∷ y ∷ r) n zero e = refl
pairs_at (x ∷ y ∷ r) n (suc j) e =
    let s : suc (suc (j * 2)) ≡ suc j * 2 = omega arith in
    let u : suc (suc (j * 2 + 1)) ≡ suc j * 2 + 1 = omega arith in
    pairs_at r (n - 1) j (omega arith)
    ∙ (λ i. (get_or (x ∷ y ∷ r) (s i) nan, get_or (x ∷ y ∷ r) (u i) nan))

pub length_pairs : (l : List Float) (n : ℕ) → length l ≡ n * 2 → length (pairs l) ≡ n
unfolding pairs
length_pairs [] n e = omega arith
length_pairs (x ∷ []) n e = let z : ⊥ = omega arith in absurd z
length_pairs (x ∷ y ∷ r) n e = let h : length (pairs r) ≡ n - 1 = length_pairs r (n - 1) (omega arith) in omega arith

pub by_pairs : (l : List Float) (n : ℕ) → length l ≡ n * 2 → ear_clip (pairs l) ≡ ear_clip_by (xy l) n
unfolding ear_clip
by_pairs l n e =
    ap (λ (P : ℕ → Pt). ear_clip_by P (length (pairs l))) (fun_ext (λ j. pairs_at l n j e))
    ∙ ap (λ (k : ℕ). ear_clip_by (xy l) k) (length_pairs l n e)

-- ---- the corners of triangles

pub length_flat : (ts : List Tri) → length (flat ts) ≡ length ts * 3
unfolding flat
length_flat [] = refl
length_flat (t ∷ ts) = let h : length (flat ts) ≡ length ts * 3 = length_flat ts in omega arith

-- ---- the whole

pub whole : (p : List Float) (n k : ℕ) (l o : List ℕ) (rev : Bool) → rev ≡ is_reversed (xy p) n → k ≡ n → l ≡ order rev n
    → sets o 0 (flat (map (turn rev) (clip (xy p) (k * k) l))) ≡ sets o 0 (flat (ear_clip_by (xy p) n))
unfolding ear_clip_by
whole p n k l o rev r e q =
    (λ i. sets o 0 (flat (map (turn rev) (clip (xy p) (e i * e i) (q i)))))
    ∙ ap (λ (b : Bool). sets o 0 (flat (map (turn b) (clip (xy p) (n * n) (order b n))))) r

pub map_same : (ts : List Tri) → map (turn false) ts ≡ ts
unfolding turn
map_same [] = refl
map_same (t ∷ ts) = ap (λ (r : List Tri). t ∷ r) (map_same ts)
