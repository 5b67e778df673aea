-- Laws of the projection: the loop that writes a face's points in the plane, and what stands in the slice then.
use mathlib.Core.Path.{◌≡◌, refl, sym, ap, ◌∙◌}
use mathlib.Core.Bool.{Bool, true, false}
use mathlib.Core.List.{List, [], ◌∷◌, map}
use Prim.Native.Nat.{ℕ, zero, suc, ◌+◌, ◌*◌, ◌%◌, ◌≤◌, ◌<◌}
use native.Mathlib.Numerals.{add-one}
use native.Mathlib.Omega.{arith}
use lib.ListN.{length, get_or, take, drop, length-map, drop_of_length-le}
use lib.Seq.{drop-cons, sets, sets-eq, take_at}
use lib.Ieee.{Float, binary32, lt, of_bits}
use Rattle.math.specs.declared.vector.V3.{V3}
use Rattle.polygon.specs.Points.{spot, spots}
use Rattle.polygon.specs.Ears.{Pt}
use Rattle.polygon.specs.Plane.{pairs, entry, handed, axis_of, flip_of, projected, projection, flat2}

-- the word of an entry
pub entry_word : (ps : List ℕ) (p k : ℕ) → k < 3 → of_bits binary32 (get_or ps (p * 3 + k) 0) ≡ entry (spot ps p) k
unfolding spot
entry_word ps p zero h = let e : p * 3 + 0 ≡ p * 3 = omega arith in ap (λ (j : ℕ). of_bits binary32 (get_or ps j 0)) e
entry_word ps p (suc zero) h = refl
entry_word ps p (suc (suc zero)) h = refl
entry_word ps p (suc (suc (suc k))) h = absurd (omega arith)

-- which entries are seen, from behind and from in front; n is the handed normal, and e its entry at the axis
module _ (ccw : Bool) (normal n : V3) (axis : ℕ) (e : Float) (en : n ≡ handed ccw normal) (ea : axis ≡ axis_of n) (ee : e ≡ entry n axis) (ps : List V3) where
  seen : (flip : Bool) → lt e (of_bits binary32 0) ≡ flip → map (projected axis flip) ps ≡ projection ccw normal ps
  unfolding projection flip_of
  seen flip f =
      let a : axis ≡ axis_of (handed ccw normal) = ea ∙ ap axis_of en in
      let b : flip ≡ flip_of (handed ccw normal) = sym f ∙ ap (λ (x : Float). lt x (of_bits binary32 0)) (ee ∙ (λ i. entry (en i) (a i))) in
      λ i. map (projected (a i) (b i)) ps

  pub seen_behind : lt e (of_bits binary32 0) ≡ true → map (λ (p : V3). (entry p ((axis + 2) % 3), entry p ((axis + 1) % 3))) ps ≡ projection ccw normal ps
  unfolding projected
  seen_behind f = seen true f

  pub seen_before : lt e (of_bits binary32 0) ≡ false → map (λ (p : V3). (entry p ((axis + 1) % 3), entry p ((axis + 2) % 3))) ps ≡ projection ccw normal ps
  unfolding projected
  seen_before f = seen false f

-- one turn of the loop over the names, and the end
module _ (S : V3 → Pt) (ps names : List ℕ) (out : List Float) (i : ℕ) where
  pub projected_go : i < length names
      → sets (sets out (i * 2) (flat2 (S (spot ps (get_or names i 0)) ∷ []))) ((i + 1) * 2) (flat2 (map S (spots ps (drop (i + 1) names))))
      ≡ sets out (i * 2) (flat2 (map S (spots ps (drop i names))))
  unfolding flat2 spots
  projected_go h =
      let e : suc (suc (i * 2)) ≡ (i + 1) * 2 = omega arith in
      let p : Pt = S (spot ps (get_or names i 0)) in
      sym (ap (λ (l : List ℕ). sets out (i * 2) (flat2 (map S (spots ps l)))) (drop-cons names i 0 h)
      ∙ ap (λ (j : ℕ). sets (sets out (i * 2) (flat2 (p ∷ []))) j (flat2 (map S (spots ps (drop (suc i) names))))) e
      ∙ ap (λ (j : ℕ). sets (sets out (i * 2) (flat2 (p ∷ []))) ((i + 1) * 2) (flat2 (map S (spots ps (drop j names))))) (sym (add-one i)))

  pub projected_end : length names ≤ i → sets out (i * 2) (flat2 (map S (spots ps (drop i names)))) ≡ out
  unfolding flat2 spots
  projected_end h = ap (λ (l : List ℕ). sets out (i * 2) (flat2 (map S (spots ps l)))) (drop_of_length-le names h)

pairs_flat2 : (l : List Pt) → pairs (flat2 l) ≡ l
unfolding pairs flat2
pairs_flat2 [] = refl
pairs_flat2 (p ∷ l) = ap (λ (r : List Pt). p ∷ r) (pairs_flat2 l)

length_flat2 : (l : List Pt) → length (flat2 l) ≡ length l * 2
unfolding flat2
length_flat2 [] = refl
length_flat2 (p ∷ l) = let h : length (flat2 l) ≡ length l * 2 = length_flat2 l in omega arith

pub length_spots : (points names : List ℕ) → length (spots points names) ≡ length names
unfolding spots
length_spots points names = length-map names (spot points)

pub length_projection : (ccw : Bool) (n : V3) (ps : List V3) → length (projection ccw n ps) ≡ length ps
unfolding projection
length_projection ccw n ps = length-map ps (projected (axis_of (handed ccw n)) (flip_of (handed ccw n)))

-- what `project` wrote, read as points
pub written : (l : List Pt) (n : ℕ) (plane : List Float) → length l ≡ n → n * 2 ≤ length plane → pairs (take (n * 2) (sets plane 0 (flat2 l))) ≡ l
written l n plane e h =
    let a : length (flat2 l) ≡ length l * 2 = length_flat2 l in
    ap (λ (r : List Float). pairs (take (n * 2) r)) (sets-eq (flat2 l) plane 0 (omega arith))
    ∙ ap pairs (take_at (flat2 l) (drop (0 + length (flat2 l)) plane) (n * 2) (omega arith))
    ∙ pairs_flat2 l
